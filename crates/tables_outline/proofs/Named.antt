-- Names and their numbers.
use Rattle.std.proofs.Common.{◌≡◌, ℕ, suc, ◌<◌, ◌≤◌, ◌+◌, ◌==◌, Bool, true, false, not, cond, List, [], ◌∷◌, ◌++◌}
use Rattle.std.proofs.Common.{length, Option, Some, None, is_some, refl, sym, ap, ◌∙◌, subst, inl, inr, arith}
use Rattle.std.specs.Prelude.{IfOk, OnOk, Result, Ok, Err, nat_lt, if◌then◌else◌}
use Rattle.std.specs.List.{position_or_len}
use Rattle.std.specs.Map.{lookup}
use Rattle.std.specs.Ordering.{eq_by_cmp}
use Rattle.std.proofs.lemmas.Bool.{cases_eq, cases_lt, eq-eqb, ne_eqb, eqb-true, lt-ltb, le-ltb}
use Rattle.std.proofs.lemmas.List.{length_push, get_or_append_left, get_or_at}
use Rattle.std.proofs.lemmas.List.Folds.{position_or_len_push}
use Rattle.std.proofs.lemmas.List.Quantifiers.{position-Some}
use Rattle.paths.specs.Root.{bytes_cmp}
use Rattle.live.specs.Graph.{Path, same}
use Rattle.live.specs.Numbering.{place_of}
use Rattle.live.proofs.Reach.{same_is, same_itself}
use Rattle.tables_outline.specs.Links.{AreMore}
use Rattle.tables_outline.specs.LinkNames.{AreNumbered, name_at, with_name}
use Rattle.tables_outline.proofs.Bools.{same_tests}

-- the number of a path is below the count, and has that path
pub numbered : (names : List Path) (p : Path) (i : ℕ) → place_of names p ≡ Some i
    → (i < length names) × (name_at names i ≡ p)
numbered names p i e = let s = position-Some (same p) names i [] e in (s.0, sym (same_is p (name_at names i) s.1))

-- two numbers are the same where the paths are
pub same_number : (names : List Path) (p q : Path) (i j : ℕ) → place_of names p ≡ Some i → place_of names q ≡ Some j
    → (i == j) ≡ same p q
same_number names p q i j e f = same_tests (i == j) (same p q) there back
  where
    there : (i == j) ≡ true → same p q ≡ true
    there t =
        let n = (numbered names p i e).1 in
        let m = (numbered names q j f).1 in
        let is : p ≡ q = sym n ∙ ap (name_at names) (eqb-true i j t) ∙ m in
        subst (λ x. same p x ≡ true) is (same_itself p)

    back : same p q ≡ true → (i == j) ≡ true
    back t =
        let is : p ≡ q = same_is p q t in
        let n : Some i ≡ Some j = sym e ∙ ap (place_of names) is ∙ f in
        eq-eqb i j cc

pub same_turned : (p q : Path) → same p q ≡ same q p
same_turned p q = same_tests (same p q) (same q p) (turn p q) (turn q p)
  where
    turn : (a b : Path) → same a b ≡ true → same b a ≡ true
    turn a b t = subst (λ x. same x a ≡ true) (same_is a b t) (same_itself a)

-- ---- one name more

module _ (names : List Path) (p : Path) where
  abbrev pub all : List Path
  all = names ++ p ∷ []

  count : length all ≡ length names + 1
  count = length_push names p

  place : (q : Path) → position_or_len (same q) all
      ≡ cond (position_or_len (same q) names == length names) (length names + cond (same q p) 0 1)
      (position_or_len (same q) names)
  place q = position_or_len_push (same q) names p

  pub kept_place : (q : Path) (i : ℕ) → place_of names q ≡ Some i → place_of all q ≡ Some i
  kept_place q i e = elim (cases_lt (position_or_len (same q) names) (length names)) as (λ _. place_of all q ≡ Some i) [
    | inl lt ↦ (
        let here : place_of names q ≡ Some (position_or_len (same q) names) =
        ap (λ b. cond b (Some (position_or_len (same q) names)) None) (lt-ltb _ _ lt) in
        let is : position_or_len (same q) all ≡ position_or_len (same q) names =
        place q ∙ ap (λ b. cond b (length names + cond (same q p) 0 1) (position_or_len (same q) names))
        (ne_eqb (position_or_len (same q) names) (length names) (λ f. absurd (omega arith))) in
        ap (λ k. cond (nat_lt k (length all)) (Some k) None) is
        ∙ ap (λ b. cond b (Some (position_or_len (same q) names)) None)
        (lt-ltb (position_or_len (same q) names) (length all) (let n = count in omega arith))
        ∙ sym here ∙ e)
    | inr past ↦ (
        let none : place_of names q ≡ None =
        ap (λ b. cond b (Some (position_or_len (same q) names)) None) (le-ltb _ _ past) in
        let absent : None ≡ Some i = sym none ∙ e in
        cc)
  ]

  past_all : (q : Path) → place_of names q ≡ None → position_or_len (same q) all ≡ length names + cond (same q p) 0 1
  past_all q e =
      elim (cases_eq (position_or_len (same q) names) (length names)) as (λ _. position_or_len (same q) all
      ≡ length names + cond (same q p) 0 1) [
        | inl is ↦ place q ∙ ap (λ b. cond b (length names + cond (same q p) 0 1) (position_or_len (same q) names))
            (eq-eqb _ _ is)
        | inr other ↦ elim (cases_lt (position_or_len (same q) names) (length names))
            as (λ _. position_or_len (same q) all
            ≡ length names + cond (same q p) 0 1) [
              | inl lt ↦ (
                  let here : place_of names q ≡ Some (position_or_len (same q) names) =
                  ap (λ b. cond b (Some (position_or_len (same q) names)) None) (lt-ltb _ _ lt) in
                  let absent : None ≡ Some (position_or_len (same q) names) = sym e ∙ here in
                  cc)
              | inr past ↦ absurd (let m = at_most (same q) names in omega (arith, m, past, other))
            ]
      ]
    where
      at_most : (test : Path → Bool) (xs : List Path) → position_or_len test xs ≤ length xs
      at_most test [] = omega arith
      at_most test (x ∷ xs) = by (test x) (at_most test xs)
        where
          by : (b : Bool) → position_or_len test xs ≤ length xs
              → cond (not b) (1 + position_or_len test xs) 0 ≤ suc (length xs)
          by true m = omega arith
          by false m = omega arith

  pub new_place : (q : Path) → place_of names q ≡ None → same q p ≡ true → place_of all q ≡ Some (length names)
  new_place q e t =
      let is : position_or_len (same q) all ≡ length names =
      past_all q e ∙ ap (λ b. length names + cond b 0 1) t ∙ omega arith in
      ap (λ k. cond (nat_lt k (length all)) (Some k) None) is
      ∙ ap (λ b. cond b (Some (length names)) None)
      (lt-ltb (length names) (length all) (let n = count in omega arith))

  pub no_place : (q : Path) → place_of names q ≡ None → same q p ≡ false → place_of all q ≡ None
  no_place q e t =
      let is : position_or_len (same q) all ≡ length names + 1 = past_all q e ∙ ap (λ b. length names + cond b 0 1) t in
      ap (λ k. cond (nat_lt k (length all)) (Some k) None) is
      ∙ ap (λ b. cond b (Some (length names + 1)) None)
      (le-ltb (length names + 1) (length all) (let n = count in omega arith))

  module _ (none : place_of names p ≡ None) where
    pub more_names : AreMore names all
    more_names = record {
      kept = kept_place;
      fresh = λ q i e f l. by q (same q p) refl e f l;
      count = λ i l. (let n = count in omega arith);
    }
      where
        by : (q : Path) (b : Bool) → same q p ≡ b → {i : ℕ} → place_of names q ≡ None → place_of all q ≡ Some i
            → i < length names → ⊥
        by q true t {i} e f l =
            (let is : Some (length names) ≡ Some i = sym (new_place q e t) ∙ f in let same : length names ≡ i = cc in
            omega (arith, same, l))
        by q false t {i} e f l = (let is : None ≡ Some i = sym (no_place q e t) ∙ f in cc)

    pub numbered_push : (entries entries_after : List (Path × ℕ)) (n : ℕ) → AreNumbered entries names → n ≡ length names
        → ((q : Path) → lookup (λ k. eq_by_cmp bytes_cmp q k) entries_after
        ≡ cond (eq_by_cmp bytes_cmp p q) (Some n) (lookup (λ k. eq_by_cmp bytes_cmp q k) entries))
        → AreNumbered entries_after all
    numbered_push entries entries_after n are en updates = record {
      found = λ q. updates q ∙ by q (place_of names q) refl (same p q) refl;
      distinct = record {
        each = λ i l. elim (cases_lt i (length names)) as (λ _. place_of all (name_at all i) ≡ Some i) [
          | inl lt ↦ ap (place_of all) (get_or_append_left names (p ∷ []) [] i lt)
              ∙ kept_place (name_at names i) i (are.distinct.each i lt)
          | inr past ↦ (
              let is : length names ≡ i = (let n = count in omega arith) in
              subst (λ j. place_of all (name_at all j) ≡ Some j) is
              (ap (place_of all) (get_or_at names p [] [] (length names) refl) ∙ new_place p none (same_itself p)))
        ];
      };
    }
      where
        by : (q : Path) (o : Option ℕ) → place_of names q ≡ o → (b : Bool) → same p q ≡ b
            → cond (same p q) (Some n) (lookup (λ k. eq_by_cmp bytes_cmp q k) entries) ≡ place_of all q
        by q o e true t = (let is : p ≡ q = same_is p q t in
            ap (λ c. cond c (Some n) (lookup (λ k. eq_by_cmp bytes_cmp q k) entries)) t ∙ ap Some en
            ∙ sym (new_place q (ap (place_of names) (sym is) ∙ none) (same_turned q p ∙ t)))
        by q None e false t =
            ap (λ c. cond c (Some n) (lookup (λ k. eq_by_cmp bytes_cmp q k) entries)) t ∙ are.found q ∙ e
            ∙ sym (no_place q e (same_turned q p ∙ t))
        by q (Some i) e false t =
            ap (λ c. cond c (Some n) (lookup (λ k. eq_by_cmp bytes_cmp q k) entries)) t ∙ are.found q ∙ e
            ∙ sym (kept_place q i e)

-- a path that was put is found at the number that it got
pub found_put : {E : Type 0} (r : Result ℕ E) (old new : List Path) (p : Path) → place_of old p ≡ None
    → OnOk r (new ≡ old ++ p ∷ []) → IfOk r (λ n. n ≡ length old) → IfOk r (λ n. place_of new p ≡ Some n)
found_put (Ok n) old new p none e f =
    ap (λ x. place_of x p) e ∙ new_place old p p none (same_itself p) ∙ ap Some (sym f)
found_put (Err x) old new p none e f = tt

pub no_more : (names : List Path) → AreMore names names
no_more names = record {
  kept = λ p i e. e;
  fresh = λ p i e f l. (let absent : None ≡ Some i = sym e ∙ f in cc);
  count = λ i l. l;
}

pub more_named : (names : List Path) (p : Path) → AreMore names (with_name names p)
more_named names p = by (place_of names p) refl
  where
    by : (o : Option ℕ) → place_of names p ≡ o
        → AreMore names (if is_some (place_of names p) then names else names ++ p ∷ [])
    by None e = subst (λ o. AreMore names (if is_some o then names else names ++ p ∷ [])) (sym e) (more_names names p e)
    by (Some i) e = subst (λ o. AreMore names (if is_some o then names else names ++ p ∷ [])) (sym e) (no_more names)

pub and_more_names : (a b c : List Path) → AreMore a b → AreMore b c → AreMore a c
and_more_names a b c f g = record {
  kept = λ p i e. g.kept p i (f.kept p i e);
  fresh = λ p i e h l. by p i e h l (place_of b p) refl;
  count = λ i l. g.count i (f.count i l);
}
  where
    by : (p : Path) (i : ℕ) → place_of a p ≡ None → place_of c p ≡ Some i → i < length a → (o : Option ℕ)
        → place_of b p ≡ o → ⊥
    by p i e h l None m = g.fresh p i m h (f.count i l)
    by p i e h l (Some j) m = (
        let n : Some j ≡ Some i = sym (g.kept p j m) ∙ h in
        let is : j ≡ i = cc in
        f.fresh p i e (m ∙ ap Some is) l)
