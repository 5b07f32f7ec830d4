-- A transaction that is begun, and what it writes one call after another.
use Rattle.std.proofs.Common.{◌≡◌, refl, true, Result, Ok, Err, subst, arith, inl, IsTrue}
use Rattle.std.specs.Prelude.{OnOk, OnErr}
use Rattle.sqlite_trees.specs.declared.store.Store.{Ghosts}
use Rattle.sqlite_trees.specs.Tree.{Trees}
use Rattle.sqlite.specs.State.{State, HasCleanDisk, KeepsCommit, Survives}
use Rattle.sqlite.specs.Held.{Held, state}
use Rattle.tables_sql.specs.Contents.{Contents, contents_of}
use Rattle.tables_sql.specs.Calls.{Changes, IsUnderWay, LeavesRows}
use Rattle.tables_sql.proofs.Steps.{clean_before, changes_then, changes_by, keeps_after, survives_whole}

-- what a crash leaves is said from before it was begun
pub survives_begun : {S : Type 0} (g : Ghosts S) (conn : Held S) (c : State) (P : Trees → Type 0)
    → Survives (state g (record conn { in_transaction = true })) c P → Survives (state g conn) c P
survives_begun g conn c P h =
    record {
      clean = h.clean;
      shield = h.shield;
      counts = h.counts;
      limit = h.limit;
      closes = h.closes;
      crash = h.crash;
    }

-- the whole transaction, from before it was begun: a crash leaves what it could leave before, or all that it changed
pub survives_all : {S : Type 0} (g : Ghosts S) (conn start : Held S) (b c : State) (f : Contents → Contents)
    → start ≡ record conn { in_transaction = true } → (HasCleanDisk (state g start) → IsUnderWay (state g start))
    → (HasCleanDisk b → Changes (state g start) b f) → Survives (state g start) b (λ _. ⊥)
    → Survives b c (λ db. db ≡ b.now.trees)
    → Survives (state g conn) c (λ db. IsTrue (state g conn).is_open
    × LeavesRows (state g conn).now db (f (contents_of (state g conn).now)))
survives_all {S} g conn start b c f is under h before after =
    survives_begun g conn c _ (subst
    (λ (x : Held S). Survives (state g x) c
    (λ db. IsTrue (state g x).is_open × LeavesRows (state g x).now db (f (contents_of (state g x).now)))) is
    (survives_whole (state g start) b c f under h before after))

-- nothing was done
pub survives_none : (s : State) → Survives s s (λ _. ⊥)
survives_none s = record {
  clean = omega arith;
  shield = λ h. h;
  counts = omega arith;
  limit = refl;
  closes = λ clean is_open. inl is_open;
  crash = λ clean db left. inl left;
}

-- two calls, of which the first was done
module _ (a b c : State) (f g : Contents → Contents) (first : HasCleanDisk b → Changes a b f)
    (next : Survives b c (λ _. ⊥)) where
  -- both were done
  pub done_both : {A E : Type 0} (r : Result A E) (h : Contents → Contents) → ((x : Contents) → g (f x) ≡ h x)
      → (HasCleanDisk c → OnOk r (Changes b c g)) → HasCleanDisk c → OnOk r (Changes a c h)
  done_both (Ok v) h same second clean =
      changes_by a c (λ x. g (f x)) h same
      (changes_then a b c f g (first (clean_before b c _ next clean)) (second clean))
  done_both (Err e) h same second clean = second clean

  -- the second failed
  pub failed_next : {A E : Type 0} (r : Result A E) → (HasCleanDisk c → OnErr r (KeepsCommit b c)) → HasCleanDisk c
      → OnErr r (KeepsCommit a c)
  failed_next (Ok v) second clean = second clean
  failed_next (Err e) second clean = keeps_after a b c f (first (clean_before b c _ next clean)) (second clean)

  -- and both that succeed always
  pub steps_both : (HasCleanDisk c → Changes b c g) → HasCleanDisk c → Changes a c (λ x. g (f x))
  steps_both second clean = changes_then a b c f g (first (clean_before b c _ next clean)) (second clean)
