-- Tests of one table after another: what those that were passed say of what the connection showed at first, and why one
-- fails.
use Rattle.std.proofs.Common.{◌≡◌, ◌↔◌, ◌⊎◌, ◌<◌, ◌≤◌, inl, inr, ◌+◌, ◌&&◌, ℕ, arith, List, ◌∷◌, length, Bool, true}
use Rattle.std.proofs.Common.{false, IsTrue, take, drop, refl, sym, subst}
use Rattle.std.specs.List.{AllByRecursion}
use Rattle.std.proofs.lemmas.Bool.{and_from}
use Rattle.sqlite.specs.Effect.{Database}
use Rattle.sqlite.specs.State.{State, HasCleanDisk, IsUnchanged, Survives}
use Rattle.sqlite.proofs.Callers.{unchanged_then}
use Rattle.tables_sql.specs.Calls.{KeepsShown}
use Rattle.tables_sql.specs.Failures.{FailsToTest}
use Rattle.tables_sql.specs.declared.failure.Failed.{Failed}
use Rattle.tables_sql.specs.declared.failure.Failed.TheVariants.{Memory, Size, Disk}
use Rattle.tables_sql.proofs.RowByRow.{unchanged_before}
use Rattle.tables_sql.proofs.TestFailures.{fails_after}
use Rattle.tables_sql.proofs.Truths.{and_so}
use Rattle.tables_sql.proofs.Lists.{one_list}
use Rattle.std.proofs.lemmas.List.{drop_all, take-append-drop}

-- ---- what is left of a list

pub left_over : {T : Type 0} (P : T → Type 0) (n : ℕ) (ts : List T) → AllByRecursion P ts → AllByRecursion P (drop n ts)
left_over P n ts all =
    (one_list P (take n ts) (drop n ts) (subst (AllByRecursion P) (sym (take-append-drop n ts)) all)).1

pub none_left : {T : Type 0} (P : T → Type 0) (n : ℕ) (ts : List T) → length ts ≤ n → AllByRecursion P (drop n ts)
none_left P n ts long = subst (AllByRecursion P) (sym (drop_all n ts long)) tt

-- ---- the tests of a list of tables

module _ {T : Type 0} (Keyed Readable : Database → T → Type 0) (ts : List T) (a : State) where
  -- N of them were tested: where the connection was open nothing changed, and of all that is so which is so of those
  -- that are left
  pub record AreTested (n : ℕ) (b : State) (readable : Bool) : Type 0 where
    pub begun : (n ≡ 0) ⊎ IsTrue a.is_open
    pub rests : IsTrue a.is_open → IsUnchanged a b
    pub kept : KeepsShown a b
    pub keyed : AllByRecursion (Keyed a.now) (drop n ts) → AllByRecursion (Keyed a.now) ts
    pub reported : IsTrue readable × AllByRecursion (Readable a.now) (drop n ts) ↔ AllByRecursion (Readable a.now) ts

  -- all were
  pub all_tested : (n : ℕ) (b : State) (p : Bool) → 0 < length ts → length ts ≤ n → AreTested n b p
      → IsUnchanged a b × AllByRecursion (Keyed a.now) ts × (IsTrue p ↔ AllByRecursion (Readable a.now) ts)
  all_tested n b p some long it =
      let up : IsTrue a.is_open =
      elim it.begun [ inl none ↦ absurd (omega (arith, some, long, none)) | inr up ↦ up ] in (
        it.rests up,
        it.keyed (none_left (Keyed a.now) n ts long),
        (λ yes. it.reported.0 (yes, none_left (Readable a.now) n ts long), λ all. (it.reported.1 all).0),
      )

  module _ (n : ℕ) (b d : State) (p : Bool) (t : T) (split : drop n ts ≡ t ∷ drop (n + 1) ts)
      (it : AreTested n b p) where
    -- one more was tested
    pub next_tested : (q : Bool) → IsUnchanged b d × Keyed b.now t × (IsTrue q ↔ Readable b.now t)
        → AreTested (n + 1) d (p && q)
    next_tested q reported =
        let up : IsTrue a.is_open = it.kept.was_open reported.0.0.was_open in
        let same : IsUnchanged a d = unchanged_then a b d (it.rests up) reported.0 in
        let first : b.now ≡ a.now = it.kept.now reported.0.0.was_open in
        let keyed : Keyed a.now t = subst (λ (x : Database). Keyed x t) first reported.1 in
        let readable : IsTrue q ↔ Readable a.now t =
        subst (λ (x : Database). IsTrue q ↔ Readable x t) first reported.2 in
        record {
          begun = inr up;
          rests = λ _. same;
          kept = unchanged_before a d same;
          keyed = λ rest. it.keyed (subst (AllByRecursion (Keyed a.now)) (sym split) (keyed, rest));
          reported = (
            λ both. let yes =
                and_so p q both.0 in it.reported.0
                (yes.0, subst (AllByRecursion (Readable a.now)) (sym split) (readable.0 yes.1, both.1)),
            λ all.
                let was = it.reported.1 all in
                let left = subst (AllByRecursion (Readable a.now)) split was.1 in
                (and_from p q was.0 (readable.1 left.0), left.1),
          );
        }

    -- its test failed
    pub next_fails : Survives a b (λ _. ⊥) → Survives b d (λ _. ⊥) → HasCleanDisk d → (f : Failed)
        → FailsToTest b d (¬ Keyed b.now t) f → FailsToTest a d (¬ AllByRecursion (Keyed a.now) ts) f
    next_fails before later clean f h = go f h a.is_open refl
      where
        go : (f : Failed) → FailsToTest b d (¬ Keyed b.now t) f → (up : Bool) → a.is_open ≡ up
            → FailsToTest a d (¬ AllByRecursion (Keyed a.now) ts) f
        go f h true is =
            let same = it.rests is in
            fails_after a b d _ _ (λ _. same, before) later clean
            (λ _ none all. none (subst (λ (x : Database). Keyed x t) (sym same.0.now_is)
            (subst (AllByRecursion (Keyed a.now)) split (left_over (Keyed a.now) n ts all)).0)) f h
        go Memory h false is = tt
        go Size h false is = h
        go Disk h false is = inl (inr is)
