-- What is said of a connection that was found first, and then opened.
use Rattle.std.proofs.Common.{ℕ, List, Result, Ok, Err, IfErr, IfOk, subst, arith}
use Rattle.std.specs.Prelude.{MatchResult}
use Rattle.sqlite_trees.specs.Tree.{Trees}
use Rattle.sqlite.specs.Effect.{Database}
use Rattle.sqlite.specs.State.{State, HasCleanDisk, IsUnchanged, Survives}
use Rattle.sqlite.proofs.StateLemmas.{survives_then, survives_weaker}
use Rattle.tables_sql.specs.Calls.{KeepsShown}
use Rattle.tables_sql.proofs.Steps.{shown_then}
use Rattle.tables.specs.declared.unopened.Cause.{Cause}
use Rattle.tables.specs.Opening.{LeavesOpening, IsCause}
use Rattle.tables.proofs.Causes.{cause_before}

before : (a b : State) (P : Trees → Type 0) → Survives a b P → HasCleanDisk b → HasCleanDisk a
before a b P h clean = omega (arith, h.clean, clean)

module _ {T E : Type 0} (f : T → State) (h : E → State) where
  -- a crash leaves one of more, by what was so at the start
  pub with_before : (r : Result T E) (a : State) (A : Type 0) (P Q : Trees → Type 0) → (HasCleanDisk a → A)
      → ((db : Trees) → A → P db → Q db)
      → MatchResult r (λ t. Survives a (f t) P) (λ e. Survives a (h e) P)
      → MatchResult r (λ t. Survives a (f t) Q) (λ e. Survives a (h e) Q)
  with_before (Ok t) a A P Q was more s =
      survives_weaker a (f t) P Q (λ clean db left. more db (was (before a (f t) P s clean)) left) s
  with_before (Err e) a A P Q was more s =
      survives_weaker a (h e) P Q (λ clean db left. more db (was (before a (h e) P s clean)) left) s

  -- what was opened is one of more
  pub among : (r : Result T E) (P Q : T → Type 0) → ((t : T) → P t → Q t) → IfOk r (λ t. HasCleanDisk (f t) → P t)
      → IfOk r (λ t. HasCleanDisk (f t) → Q t)
  among (Ok t) P Q more opens = λ clean. more t (opens clean)
  among (Err e) P Q more opens = tt

  module _ (r : Result T E) (a b : State) (dir : List ℕ) (same : HasCleanDisk b → IsUnchanged a b)
      (first : Survives a b (λ _. ⊥))
      (next : MatchResult r (λ t. Survives b (f t) (LeavesOpening dir b.now))
      (λ e. Survives b (h e) (LeavesOpening dir b.now)))
    where
      one : (c : State) → Survives b c (LeavesOpening dir b.now) → Survives a c (LeavesOpening dir a.now)
      one c s =
          survives_then a b c (λ _. ⊥) (LeavesOpening dir b.now) (LeavesOpening dir a.now)
          (λ clean db none. absurd none)
          (λ clean db left. subst (λ (x : Database). LeavesOpening dir x db)
          (same (before b c (LeavesOpening dir b.now) s clean)).0.now_is left) first s

      pub both_survive : MatchResult r (λ t. Survives a (f t) (LeavesOpening dir a.now))
          (λ e. Survives a (h e) (LeavesOpening dir a.now))
      both_survive = by r next
        where
          by : (q : Result T E) → MatchResult q (λ t. Survives b (f t) (LeavesOpening dir b.now))
              (λ e. Survives b (h e) (LeavesOpening dir b.now))
              → MatchResult q (λ t. Survives a (f t) (LeavesOpening dir a.now))
              (λ e. Survives a (h e) (LeavesOpening dir a.now))
          by (Ok t) s = one (f t) s
          by (Err e) s = one (h e) s

      pub both_same : (HasCleanDisk b → KeepsShown a b) → IfErr r (λ e. HasCleanDisk (h e) → KeepsShown b (h e))
          → IfErr r (λ e. HasCleanDisk (h e) → KeepsShown a (h e))
      both_same kept = by r next
        where
          by : (q : Result T E) → MatchResult q (λ t. Survives b (f t) (LeavesOpening dir b.now))
              (λ e. Survives b (h e) (LeavesOpening dir b.now))
              → IfErr q (λ e. HasCleanDisk (h e) → KeepsShown b (h e))
              → IfErr q (λ e. HasCleanDisk (h e) → KeepsShown a (h e))
          by (Ok t) s later = tt
          by (Err e) s later =
              λ clean. shown_then a b (h e) (kept (before b (h e) (LeavesOpening dir b.now) s clean)) (later clean)

      pub same_cause : (k : E → Cause) → IfErr r (λ e. HasCleanDisk (h e) → IsCause dir b (h e) (k e))
          → IfErr r (λ e. HasCleanDisk (h e) → IsCause dir a (h e) (k e))
      same_cause k = by r next
        where
          by : (q : Result T E) → MatchResult q (λ t. Survives b (f t) (LeavesOpening dir b.now))
              (λ e. Survives b (h e) (LeavesOpening dir b.now))
              → IfErr q (λ e. HasCleanDisk (h e) → IsCause dir b (h e) (k e))
              → IfErr q (λ e. HasCleanDisk (h e) → IsCause dir a (h e) (k e))
          by (Ok t) s later = tt
          by (Err e) s later =
              λ clean. cause_before a b (h e) (same (before b (h e) (LeavesOpening dir b.now) s clean)) first dir (k e)
              (later clean)

      pub same_took : (P : Database → T → Type 0) → IfOk r (λ t. HasCleanDisk (f t) → P b.now t)
          → IfOk r (λ t. HasCleanDisk (f t) → P a.now t)
      same_took P = by r next
        where
          by : (q : Result T E) → MatchResult q (λ t. Survives b (f t) (LeavesOpening dir b.now))
              (λ e. Survives b (h e) (LeavesOpening dir b.now))
              → IfOk q (λ t. HasCleanDisk (f t) → P b.now t) → IfOk q (λ t. HasCleanDisk (f t) → P a.now t)
          by (Ok t) s later =
              λ clean. subst (λ (x : Database). P x t)
              (same (before b (f t) (LeavesOpening dir b.now) s clean)).0.now_is (later clean)
          by (Err e) s later = tt
