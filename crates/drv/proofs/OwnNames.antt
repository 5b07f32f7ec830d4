-- Names in order, each once, are as many as before if and only if no two were the same.
use Rattle.std.proofs.Common.{◌≡◌, ℕ, suc, ◌≤◌, Bool, false, cond, eqb, List, [], ◌∷◌}
use Rattle.std.proofs.Common.{length, map, Bor, refl, sym, ap, subst, ◌∙◌, arith, inl, inr}
use Rattle.std.specs.Prelude.{IsPermutation, string_bytes}
use Rattle.std.specs.List.{AllByRecursion, IsDistinct, dedup, dedup_from}
use Rattle.std.specs.List.Sorted.{IsStrictlySortedBy}
use Rattle.std.specs.Ordering.{nat_cmp, eq_by_cmp}
use Rattle.std.specs.Str.{bytes_eq}
use Rattle.std.specs.Cmp.Lexicographic.{slice_cmp, texts_ties}
use Rattle.std.proofs.lemmas.Bool.{cases_Bool, eqb-true, eq-eqb, both_ways, false_from_ne_true}
use Rattle.std.proofs.lemmas.Slice.Eq.{bytes_eq-Decides}
use Rattle.std.proofs.lemmas.List.Sorted.{IsPermutation-sym, length_permutation}
use Rattle.std.proofs.lemmas.Map.Keys.{IsDistinct-IsPermutation, IsDistinct-from_sorted}
use Rattle.drv.specs.declared.output.Output.{Output}
use Rattle.drv.specs.View.{views}
use Rattle.drv.specs.Outcome.{have_own_names}
use Rattle.drv.proofs.Outcomes.{Named, same_name, distinct_if_own, own_if_distinct}

abbrev pub Text : Type 0
Text = List ℕ

abbrev pub read : Bor Text → Text
read s = s.now

abbrev pub same_text : Bor Text → Bor Text → Bool
same_text x y = bytes_eq x.now y.now

flips : (x y : Bor Text) → same_text x y ≡ same_text y x
flips x y =
    elim (cases_Bool (same_text x y)) [
      | inl h ↦ h ∙ sym ((bytes_eq-Decides y.now x.now).1 (sym ((bytes_eq-Decides x.now y.now).0 h)))
      | inr h ↦ h ∙ sym (false_from_ne_true (same_text y x)
          (λ e. both_ways (same_text x y) h
          ((bytes_eq-Decides x.now y.now).1 (sym ((bytes_eq-Decides y.now x.now).0 e)))))
    ]

-- ---- what is kept

dedup_short : (k : Bor Text) (xs : List (Bor Text)) → length (dedup_from same_text k xs) ≤ suc (length xs)
dedup_short k [] = omega arith
dedup_short k (x ∷ xs) =
    elim (cases_Bool (same_text x k)) [
      | inl h ↦ let is =
          ap (λ b. length (cond b (dedup_from same_text k xs) (k ∷ dedup_from same_text x xs))) h in
          let less = dedup_short k xs in omega arith
      | inr h ↦ let is =
          ap (λ b. length (cond b (dedup_from same_text k xs) (k ∷ dedup_from same_text x xs))) h in
          let less = dedup_short x xs in omega arith
    ]

all_kept_from : (k : Bor Text) (xs : List (Bor Text)) → length (dedup_from same_text k xs) ≡ suc (length xs)
    → dedup_from same_text k xs ≡ k ∷ xs
all_kept_from k [] e = refl
all_kept_from k (x ∷ xs) e =
    elim (cases_Bool (same_text x k)) [
      | inl h ↦
          let is = ap (λ b. length (cond b (dedup_from same_text k xs) (k ∷ dedup_from same_text x xs))) h in
          let less = dedup_short k xs in
          absurd (omega arith)
      | inr h ↦
          let is = ap (λ b. length (cond b (dedup_from same_text k xs) (k ∷ dedup_from same_text x xs))) h in
          let next : length (dedup_from same_text x xs) ≡ suc (length xs) = omega arith in
          ap (λ b. cond b (dedup_from same_text k xs) (k ∷ dedup_from same_text x xs)) h
          ∙ ap (λ (ys : List (Bor Text)). k ∷ ys) (all_kept_from x xs next)
    ]

all_kept : (xs : List (Bor Text)) → length (dedup same_text xs) ≡ length xs → dedup same_text xs ≡ xs
all_kept [] e = refl
all_kept (x ∷ xs) e = all_kept_from x xs e

distinct_kept_from : (k : Bor Text) (xs : List (Bor Text)) → IsDistinct same_text (k ∷ xs)
    → dedup_from same_text k xs ≡ k ∷ xs
unfolding IsDistinct
distinct_kept_from k [] h = refl
distinct_kept_from k (x ∷ xs) h =
    ap (λ b. cond b (dedup_from same_text k xs) (k ∷ dedup_from same_text x xs)) (flips x k ∙ h.0.0)
    ∙ ap (λ (ys : List (Bor Text)). k ∷ ys) (distinct_kept_from x xs h.1)

distinct_kept : (xs : List (Bor Text)) → IsDistinct same_text xs → dedup same_text xs ≡ xs
distinct_kept [] h = refl
distinct_kept (x ∷ xs) h = distinct_kept_from x xs h

-- ---- distinct texts by their references

abbrev SameBy : (Bor Text → Bor Text → Bool) → Type 0
SameBy test = (x y : Bor Text) → test x y ≡ same_text x y

all_as : (test : Bor Text → Bool) (xs : List (Bor Text)) (x : Bor Text) → ((y : Bor Text) → test y ≡ same_text x y)
    → AllByRecursion (λ y. test y ≡ false) xs → AllByRecursion (λ y. same_text x y ≡ false) xs
all_as test [] x is h = tt
all_as test (y ∷ ys) x is h = (sym (is y) ∙ h.0, all_as test ys x is h.1)

distinct_as : (test : Bor Text → Bor Text → Bool) (xs : List (Bor Text)) → SameBy test → IsDistinct test xs
    → IsDistinct same_text xs
unfolding IsDistinct
distinct_as test [] is h = tt
distinct_as test (x ∷ xs) is h = (all_as (test x) xs x (is x) h.0, distinct_as test xs is h.1)

abbrev order : Bor Text → Bor Text → Rattle.std.proofs.Common.Ordering
order x y = slice_cmp nat_cmp x.now y.now

-- the references are those of the names
abbrev pub Refer : List (Bor Text) → List Named → Type 0
Refer refs xs = map read refs ≡ map (λ x. x.0) xs

head_same : (r : Bor Text) (refs : List (Bor Text)) (x : Named) (xs : List Named) → Refer (r ∷ refs) (x ∷ xs)
    → (r.now ≡ x.0) × Refer refs xs
head_same r refs x xs e = (cc, cc)

all_refer : (k : Bor Text) (n : Named) (refs : List (Bor Text)) (xs : List Named) → k.now ≡ n.0 → Refer refs xs
    → AllByRecursion (λ y. same_text k y ≡ false) refs → AllByRecursion (λ y. same_name n y ≡ false) xs
all_refer k n [] [] e is h = tt
all_refer k n [] (x ∷ xs) e is h = absurd cc
all_refer k n (r ∷ refs) [] e is h = absurd cc
all_refer k n (r ∷ refs) (x ∷ xs) e is h =
    let heads = head_same r refs x xs is in (
      ap (λ a. bytes_eq a x.0) (sym e) ∙ ap (λ a. bytes_eq k.now a) (sym heads.0) ∙ h.0,
      all_refer k n refs xs e heads.1 h.1,
    )

refer_all : (k : Bor Text) (n : Named) (refs : List (Bor Text)) (xs : List Named) → k.now ≡ n.0 → Refer refs xs
    → AllByRecursion (λ y. same_name n y ≡ false) xs → AllByRecursion (λ y. same_text k y ≡ false) refs
refer_all k n [] [] e is h = tt
refer_all k n [] (x ∷ xs) e is h = absurd cc
refer_all k n (r ∷ refs) [] e is h = absurd cc
refer_all k n (r ∷ refs) (x ∷ xs) e is h =
    let heads = head_same r refs x xs is in
    (ap (λ a. bytes_eq a r.now) e ∙ ap (λ a. bytes_eq n.0 a) heads.0 ∙ h.0, refer_all k n refs xs e heads.1 h.1)

names_if : (refs : List (Bor Text)) (xs : List Named) → Refer refs xs → IsDistinct same_text refs
    → IsDistinct same_name xs
unfolding IsDistinct
names_if [] [] is h = tt
names_if [] (x ∷ xs) is h = absurd cc
names_if (r ∷ refs) [] is h = absurd cc
names_if (r ∷ refs) (x ∷ xs) is h = let heads =
    head_same r refs x xs is in (all_refer r x refs xs heads.0 heads.1 h.0, names_if refs xs heads.1 h.1)

refs_if : (refs : List (Bor Text)) (xs : List Named) → Refer refs xs → IsDistinct same_name xs
    → IsDistinct same_text refs
unfolding IsDistinct
refs_if [] [] is h = tt
refs_if [] (x ∷ xs) is h = absurd cc
refs_if (r ∷ refs) [] is h = absurd cc
refs_if (r ∷ refs) (x ∷ xs) is h = let heads =
    head_same r refs x xs is in (refer_all r x refs xs heads.0 heads.1 h.0, refs_if refs xs heads.1 h.1)

refer_length : (refs : List (Bor Text)) (xs : List Named) → Refer refs xs → length refs ≡ length xs
refer_length [] [] is = refl
refer_length [] (x ∷ xs) is = absurd cc
refer_length (r ∷ refs) [] is = absurd cc
refer_length (r ∷ refs) (x ∷ xs) is = ap (λ n. suc n) (refer_length refs xs (head_same r refs x xs is).1)

-- ---- the count

pub count_decides : (refs sorted : List (Bor Text)) (xs : List Named) → Refer refs xs → IsPermutation refs sorted
    → IsStrictlySortedBy order (dedup same_text sorted)
    → eqb (length (dedup same_text sorted)) (length xs) ≡ have_own_names xs
count_decides refs sorted xs is moved rising =
    let many : length sorted ≡ length xs = length_permutation refs sorted moved ∙ refer_length refs xs is in
    elim (cases_Bool (have_own_names xs)) [
      | inl own ↦
          let apart : IsDistinct same_text sorted =
          IsDistinct-IsPermutation same_text flips refs sorted moved
          (refs_if refs xs is (distinct_if_own xs own)) in
          eq-eqb (length (dedup same_text sorted)) (length xs) (ap length (distinct_kept sorted apart) ∙ many) ∙ sym own
      | inr shared ↦
          false_from_ne_true (eqb (length (dedup same_text sorted)) (length xs)) (λ e.
          let kept : dedup same_text sorted ≡ sorted =
          all_kept sorted (eqb-true (length (dedup same_text sorted)) (length xs) e ∙ sym many) in
          let apart : IsDistinct same_text sorted =
          distinct_as (eq_by_cmp order) sorted (λ x y. sym (texts_ties x.now y.now))
          (IsDistinct-from_sorted order sorted (subst (λ ys. IsStrictlySortedBy order ys) kept rising)) in
          let before : IsDistinct same_text refs =
          IsDistinct-IsPermutation same_text flips sorted refs (IsPermutation-sym refs sorted moved) apart in
          both_ways (have_own_names xs) shared (own_if_distinct xs (names_if refs xs is before)))
          ∙ sym shared
    ]

-- the names of outputs are those of their views
pub names_of_views : (outputs : List Output)
    → map (λ (o : Output). string_bytes o.name) outputs ≡ map (λ (x : Named). x.0) (views outputs)
names_of_views [] = refl
names_of_views (o ∷ outputs) = ap (λ (names : List Text). string_bytes o.name ∷ names) (names_of_views outputs)
