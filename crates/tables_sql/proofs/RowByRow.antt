-- A query whose rows are read one at a time: what is known of it at each row.
use Rattle.std.proofs.Common.{◌≡◌, ◌⊎◌, inl, inr, ℕ, List, [], ◌++◌, None, Result, Ok, Err, IsTrue, IfOk, refl, sym, ap}
use Rattle.std.proofs.Common.{subst, ◌∙◌}
use Rattle.std.specs.Prelude.{IsSome, IfErr}
use Rattle.sqlite_value.specs.Order.{Row}
use Rattle.sqlite_trees.specs.Tree.{Trees}
use Rattle.sqlite_trees.specs.declared.store.Store as store
use Rattle.sqlite_schema.specs.declared.command.Returning.{Returning}
use Rattle.sqlite_resolve.specs.declared.compiled.Compiled.{Compiled}
use Rattle.sqlite_resolve.specs.declared.error.CompileError.{CompileError}
use Rattle.sqlite.specs.declared.error.Error.{Error}
use Rattle.sqlite.specs.Effect.{Database, RefusesToRead}
use Rattle.sqlite.specs.Clock.{timed}
use Rattle.sqlite.specs.Held.{Held, state}
use Rattle.sqlite.specs.Given.{HasBegun, HasGiven, Returns}
use Rattle.sqlite.specs.Listing.{understood, reads_listing, IsSourceOf}
use Rattle.sqlite.specs.State.{State, Survives, Shown, ShowsRows, Begins, CommitsShowing, IsUnchanged, IsRolledBack}
use Rattle.sqlite.specs.State.{IsStatement, IsNotRun, FailsToQuery, FailsToShow}
use Rattle.sqlite.proofs.Callers.{unchanged_then, begins_shown, EndsIn}
use Rattle.sqlite.proofs.StateLemmas.{survives_weaker}
use Rattle.sqlite.proofs.StreamLemmas.{fails_since as store_fails_since}
use Rattle.sqlite_sql.specs.Query.{Query}
use Rattle.sqlite_schema.specs.declared.command.Command.TheVariants.{Select}
use Rattle.tables_sql.specs.Queries.{IsSelect, HasBegunWith, IsAnswered}
use Rattle.tables_sql.specs.Calls.{KeepsShown}
use Rattle.tables_sql.specs.Failures.{IsQueryFailure}
use Rattle.tables_sql.specs.declared.failure.Failed.{Failed}
use Rattle.tables_sql.proofs.Means.{IsMeant}
use Rattle.tables_sql.proofs.ReadFailures.{understood_read, one}

-- ---- a SELECT shows no rows of a write

silent : (text : List ℕ) → IsSelect text → (s : State) (c : Compiled) → understood s.now.schema text ≡ Ok c
    → c.returning ≡ None
silent text reads s c is = understood_read reads.0 reads.1 reads.2 reads.3 reads.4 text reads.5 s.now.schema c is

never : (text : List ℕ) (params : Row) → IsSelect text → (s : State) (db : Trees) → CommitsShowing text params s db → ⊥
unfolding CommitsShowing
never text params reads s db h =
    absurd (let none : IsSome {T = Returning} None = subst IsSome (silent text reads s h.0 h.1.is) h.2 in cc)

-- so it commits nothing
pub commits_nothing : (text : List ℕ) (params : Row) → IsSelect text → (old new : State)
    → Survives old new (CommitsShowing text params old) → Survives old new (λ _. ⊥)
commits_nothing text params reads old new h = survives_weaker old new _ _ (λ _ db. never text params reads old db) h

returned : (r : Result Compiled CompileError) → Returns r → (c : Compiled) × (r ≡ Ok c) × IsSome c.returning
returned (Ok c) h = (c, refl, h)
returned (Err e) h = absurd h

-- and it begins at its first row
pub begun : {S : Type 0} (g : store.Ghosts S) (text : List ℕ) (params : Row) → IsSelect text → (old new : Held S)
    → HasBegun g text params old new → HasGiven g text params new [] × IsUnchanged (state g old) (state g new)
begun g text params reads old new (inl h) = h
begun g text params reads old new (inr h) =
    let it =
    returned _ h.0 in absurd (let none : IsSome {T = Returning} None =
    subst IsSome (silent text reads (state g old) it.0 it.1) it.2 in cc)

-- ---- what is so of a later moment, while nothing changed

module _ (text : List ℕ) (params : Row) (reads : IsSelect text) (first old : State) (same : IsUnchanged first old) where
  statement : (c : Compiled) → IsStatement old text params c → IsStatement first text params c
  statement c it =
      record {
        is = subst (λ (d : Database). understood d.schema text ≡ Ok c) same.0.now_is it.is;
        whole = it.whole;
        given = it.given;
        now = it.now;
      }

  pub shown_since : (new : State) (rows : List Row) → Shown text params old new rows → Shown text params first new rows
  unfolding Shown statement
  shown_since new rows h =
      let none = silent text reads old h.0 h.1.is in
      let full = timed params h.0.formats h.1.now in
      let it = subst (ShowsRows old new text h.0 full rows) none h.2 in
      let kept : ShowsRows first new text h.0 full rows None = (
        it.0,
        subst (λ (d : Database). IsSourceOf (reads_listing d.schema text) d it.0) same.0.now_is it.1,
        it.2,
        unchanged_then first old new same it.3,
      ) in
      (h.0, statement h.0 h.1, subst (ShowsRows first new text h.0 full rows) (sym none) kept)

  pub begins_since : (rows : List Row) → Begins text params old rows → Begins text params first rows
  unfolding Begins statement
  begins_since rows h = (
    h.0,
    statement h.0 h.1,
    h.2,
    h.3,
    subst (λ (d : Database). IsSourceOf (reads_listing d.schema text) d h.3) same.0.now_is h.4,
    h.5,
  )

  pub fails_since : Survives first old (λ _. ⊥) → (new : State) (e : Error) → FailsToQuery text params old new e
      → FailsToQuery text params first new e
  unfolding FailsToQuery IsNotRun statement
  fails_since survives new e (inl (inl h)) = inl (inl (rw (← same.0.now_is) h.0, unchanged_then first old new same h.1))
  fails_since survives new e (inl (inr h)) = inl (inr (store_fails_since first old new same survives.counts e h))
  fails_since survives new e (inr (c, it, h)) =
      let none = silent text reads old c it.is in
      let full = timed params c.formats it.now in
      let why = subst (FailsToShow old new text c full e) none h in
      let kept : FailsToShow first new text c full e None = (
        why.0,
        subst (λ (d : Database). IsSourceOf (reads_listing d.schema text) d why.0) same.0.now_is why.1,
        subst (λ limit. RefusesToRead limit c.command why.0 full e) survives.limit why.2,
        unchanged_then first old new same why.3,
      ) in
      inr (c, statement c it, subst (FailsToShow first new text c full e) (sym none) kept)

-- what a text that is meant as a query begins with, a whole answer begins with
pub whole : (text : List ℕ) (params : Row) (old new : State) (names : List (List ℕ)) (query : Query) {count : ℕ}
    → IsMeant old.now.schema text count (Select (record { lets = []; body = query }) names) → (rows : List Row)
    → HasBegunWith text params old new rows → (tail : List Row) × Shown text params old new (rows ++ tail)
whole text params old new names query meant rows h = begins_shown text params old new rows h.0 h.1 (λ c db it from.
    let same : meant.0 ≡ c = one meant.1.0 it.is in
    subst (λ k. EndsIn k db (timed params c.formats it.now)) (sym meant.2 ∙ ap (λ (x : Compiled). x.command) same) tt)

-- ---- done or failed, a query leaves what is shown as it was

undone_before : (old new : State) → (IsTrue old.is_open → old.now ≡ old.committed) → IsRolledBack old new
    → KeepsShown old new
undone_before old new settled h = record {
  was_open = h.was_open;
  now = λ is_open. (h.undone is_open).0 ∙ sym (settled (h.was_open is_open));
  committed = λ is_open. (h.undone is_open).1;
}

pub unchanged_before : (old new : State) → IsUnchanged old new → KeepsShown old new
unchanged_before old new h =
    record { was_open = λ _. h.0.was_open; now = λ _. h.0.now_is; committed = λ _. h.0.committed_is }

pub failed_before : (text : List ℕ) (params : Row) → IsSelect text → (old new : State)
    → (IsTrue old.is_open → old.now ≡ old.committed) → (e : Error) → FailsToQuery text params old new e
    → KeepsShown old new
unfolding FailsToQuery IsNotRun
failed_before text params reads old new settled e (inl (inl h)) = unchanged_before old new h.1
failed_before text params reads old new settled e (inl (inr h)) = undone_before old new settled h.3
failed_before text params reads old new settled e (inr (c, it, h)) =
    unchanged_before old new (subst (FailsToShow old new text c (timed params c.formats it.now) e)
    (silent text reads old c it.is) h).3

pub answered_before : {T : Type 0} (r : Result T Failed) (text : List ℕ) (params : Row) → IsSelect text
    → (old new : State) → (IsTrue old.is_open → old.now ≡ old.committed)
    → (Of : List Row → T → Type 0) (Why : List Row → Failed → Type 0)
    → IfOk r (λ it. (rows : List Row) × IsAnswered text params old new rows × Of rows it)
    → IfErr r (λ f. IsQueryFailure text params old new f
    ⊎ ((rows : List Row) × HasBegunWith text params old new rows × Why rows f)) → KeepsShown old new
answered_before (Ok x) text params reads old new settled Of Why h k = unchanged_before old new h.1.1.1
answered_before (Err f) text params reads old new settled Of Why h (inl k) =
    failed_before text params reads old new settled k.0 k.2
answered_before (Err f) text params reads old new settled Of Why h (inr k) = unchanged_before old new k.1.1
