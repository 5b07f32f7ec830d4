-- An insert reports a size of an open connection alone: what is asked after the size, and what it reports.
use Rattle.std.proofs.Common.{◌≡◌, ◌⊎◌, inl, inr, ℕ, List, Bool, true, false, Result, Ok, Err, IfErr, IsTrue, refl, sym}
use Rattle.std.proofs.Common.{subst, ◌∙◌, arith, ◌≤◌}
use Rattle.std.specs.Prelude.{MatchBool}
use Rattle.std.proofs.lemmas.Bool.{both_ways}
use Rattle.sqlite_value.specs.Order.{Row}
use Rattle.sqlite_trees.specs.declared.error.StoreError.TheVariants.{Unstorable}
use Rattle.sqlite_resolve.specs.declared.compiled.Compiled.{Compiled}
use Rattle.sqlite.specs.declared.error.Error.{Error}
use Rattle.sqlite.specs.declared.error.Error.TheVariants.{ExecuteReturnedResults}
use Rattle.sqlite.specs.Clock.{timed}
use Rattle.sqlite.specs.State.{State, HasCleanDisk, Survives, IsUnchanged, IsRolledBack, Fails, IsNotRun, ExecutesIn}
use Rattle.sqlite.specs.State.{ExecutesInside, RunsCommand, shows_rows}
use Rattle.sqlite.proofs.Callers.{unchanged_then}
use Rattle.sqlite.proofs.StreamLemmas.{rolled_back_since}
use Rattle.tables_sql.specs.declared.failure.Failed.{Failed}
use Rattle.tables_sql.specs.declared.failure.Failed.TheVariants.{Memory, Size, Disk}
use Rattle.tables_sql.specs.Failures.{failure_of, FailsWith, HasDiskCause, IsWriteFailure, IsAdditionFailure}
use Rattle.tables_sql.proofs.WriteFailures.{OrShut, fails_wider}

-- ---- one call after another

module _ (a b c : State) where
  -- undone, then left alone
  pub undone_then : IsRolledBack a b → IsUnchanged b c → IsRolledBack a c
  undone_then p q = record {
    was_open = λ _. p.was_open q.0.was_open;
    undone = λ _. let u = p.undone q.0.was_open in (q.0.now_is ∙ u.0, q.0.committed_is ∙ u.1);
    autocommit = q.0.mode ∙ p.autocommit;
    unmarked = q.2 ∙ p.unmarked;
    counts = record { changes = q.1.changes ∙ p.counts.changes; last_rowid = q.1.last_rowid ∙ p.counts.last_rowid };
  }

  undone_after : a.faults ≤ b.faults → IsUnchanged a b ⊎ IsRolledBack a b → IsRolledBack b c → IsRolledBack a c
  undone_after more (inl p) q = rolled_back_since a b c p more q
  undone_after more (inr p) q = record {
    was_open = λ up. p.was_open (q.was_open up);
    undone = λ up. let u = q.undone up in let before = (p.undone (q.was_open up)).1 in (u.0 ∙ before, u.1 ∙ before);
    autocommit = q.autocommit;
    unmarked = q.unmarked;
    counts =
        record {
          changes = q.counts.changes ∙ p.counts.changes;
          last_rowid = q.counts.last_rowid ∙ p.counts.last_rowid;
        };
  }

  -- a cause in the later call is one in both
  disk_later : Survives a b (λ _. ⊥) → Survives b c (λ _. ⊥) → HasCleanDisk b → HasDiskCause b c → HasDiskCause a c
  disk_later before later clean (inl more) = inl (omega (arith, more, before.counts))
  disk_later before later clean (inr shut) = go a.is_open refl
    where
      go : (up : Bool) → a.is_open ≡ up → HasDiskCause a c
      go false is = inr is
      go true is =
          elim (before.closes clean is) [
            | inl up ↦ absurd (both_ways _ shut up)
            | inr more ↦ inl (omega (arith, more, later.counts))
          ]

  -- a failure of the store in the later call is one of both
  pub fails_later : IsUnchanged a b ⊎ IsRolledBack a b → Survives a b (λ _. ⊥) → Survives b c (λ _. ⊥) → HasCleanDisk b
      → (f : Failed) → FailsWith b c ⊥ ⊥ f → FailsWith a c ⊥ ⊥ f
  fails_later first before later clean Memory (inl h) = inl (undone_after before.counts first h)
  fails_later (inl first) before later clean Memory (inr h) = inr (unchanged_then a b c first h)
  fails_later (inr first) before later clean Memory (inr h) = inl (undone_then first h)
  fails_later first before later clean Size h = absurd h.0
  fails_later first before later clean Disk (inl h) =
      inl (disk_later before later clean h.0, undone_after before.counts first h.1)
  fails_later first before later clean Disk (inr h) = absurd h.0

  -- ---- a size is there still after a call that changed nothing

  module _ (text : List ℕ) (params : Row) (e : Error) (is_size : failure_of e ≡ Size) (same : IsUnchanged b c) where
    still : IsUnchanged a b ⊎ IsRolledBack a b → IsUnchanged a c ⊎ IsRolledBack a c
    still (inl h) = inl (unchanged_then a b c h same)
    still (inr h) = inr (undone_then h same)

    failed_still : (too_big : Type 0) → Fails a b too_big e → Fails a c too_big e
    failed_still too_big (Unstorable, is, why, back, tells) =
        (Unstorable, is, why, undone_then back same, λ kind blamed fault. absurd (let no = fault in cc))
    failed_still too_big (cause, is, why, back, tells) =
        absurd (let no = subst (λ x. failure_of x ≡ Size) is is_size in cc)

    ran_still : (d : Compiled) (ps : Row) (shows : Bool)
        → MatchBool shows (◌≡◌ {A = Result ℕ Error} (Err e) (Err ExecuteReturnedResults) × IsUnchanged a b)
        (RunsCommand a b text d ps (Err e))
        → MatchBool shows (◌≡◌ {A = Result ℕ Error} (Err e) (Err ExecuteReturnedResults) × IsUnchanged a c)
        (RunsCommand a c text d ps (Err e))
    ran_still d ps true h = (h.0, unchanged_then a b c h.1 same)
    ran_still d ps false (inl h) = inl (h.0, unchanged_then a b c h.1 same)
    ran_still d ps false (inr h) = inr (failed_still _ h)

    write_still : ExecutesInside 0 text params a b (Err e) → ExecutesInside 0 text params a c (Err e)
    unfolding ExecutesIn IsNotRun
    write_still (inl (inl (inl h), k)) = inl (inl (inl (h.0, unchanged_then a b c h.1 same)), still k)
    write_still (inl (inl (inr h), k)) = inl (inl (inr (failed_still ⊥ h)), still k)
    write_still (inl (inr h, k)) =
        inl (inr (h.0, h.1, ran_still h.0 (timed params h.0.formats h.1.now) (shows_rows false h.0) h.2), still k)
    write_still (inr h) = inr (h.0, h.1, unchanged_then a b c h.2 same)

  -- ---- the question after a size

  write_left : (text : List ℕ) (params : Row) (e : Error) → ExecutesInside 0 text params a b (Err e)
      → IsUnchanged a b ⊎ IsRolledBack a b
  write_left text params e (inl h) = h.1
  write_left text params e (inr h) = inl h.2

  -- it was answered, so the size remains
  pub size_exists : (text : List ℕ) (params : Row) → IsWriteFailure text params a b Size → IsUnchanged b c
      → IsAdditionFailure text params a c Size
  size_exists text params h same =
      inl ((h.0, h.1, write_still text params h.0 (sym h.1) same h.2), λ _. was_open (write_left text params h.0 h.2))
    where
      was_open : IsUnchanged a b ⊎ IsRolledBack a b → IsTrue a.is_open
      was_open (inl before) = before.0.was_open
      was_open (inr back) = back.was_open same.0.was_open

  -- it failed
  pub size_dropped : (text : List ℕ) (params : Row) → IsWriteFailure text params a b Size → Survives a b (λ _. ⊥)
      → Survives b c (λ _. ⊥) → HasCleanDisk c → (f : Failed) → FailsWith b c ⊥ ⊥ f
      → IsAdditionFailure text params a c f
  size_dropped text params h before later clean f failed =
      inr (fails_later (write_left text params h.0 h.2) before later (omega (arith, later.clean, clean)) f failed)

-- ---- what the calls answer

open_size : (old new : State) (large refused : Type 0) (f : Failed) → (f ≡ Size → IsTrue old.is_open)
    → FailsWith old new (OrShut old large) refused f → FailsWith old new (large × IsTrue old.is_open) refused f
open_size old new large refused Memory up h = h
open_size old new large refused Size up (inl big, back) = ((big, up refl), back)
open_size old new large refused Size up (inr shut, back) = absurd (both_ways _ shut (up refl))
open_size old new large refused Disk up h = h

-- an insert that failed
pub addition_failed : {T : Type 0} (r : Result T Failed) (old new : State) (text : List ℕ) (params : Row)
    (large refused : Type 0) → IfErr r (IsAdditionFailure text params old new)
    → ((e : Error) → ExecutesInside 0 text params old new (Err e)
    → FailsWith old new (OrShut old large) refused (failure_of e))
    → IfErr r (FailsWith old new (large × IsTrue old.is_open) refused)
addition_failed (Ok x) old new text params large refused h fails = tt
addition_failed (Err f) old new text params large refused (inl (h, up)) fails =
    open_size old new large refused f up
    (subst (FailsWith old new (OrShut old large) refused) (sym h.1) (fails h.0 h.2))
addition_failed (Err f) old new text params large refused (inr h) fails =
    fails_wider old new ⊥ (large × IsTrue old.is_open) ⊥ refused (λ no. absurd no) (λ no. absurd no) f h
