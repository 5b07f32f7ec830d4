-- `matchit` finds a row whose pattern fits a path, where each parameter is a whole part of the path.
use Rattle.std.proofs.Common.{◌≡◌, ℕ, zero, suc, ◌-◌, ◌<◌, ◌≤◌, List, [], ◌∷◌, length, drop, Option, Some, None, Bool}
use Rattle.std.proofs.Common.{true, false, cond, ◌==◌, ◌&&◌, ◌||◌, not, ◌⊎◌, inl, inr, refl, sym, ap, ◌∙◌, arith, subst}
use Rattle.std.proofs.Common.{ltb}
use Rattle.std.proofs.lemmas.List.{drop_all}
use Rattle.std.proofs.lemmas.Bool.Decides.{nat_tests}
use Rattle.std.specs.Prelude.{nat_le}
use Rattle.matchit.specs.Rows.{RowsOf}
use Rattle.matchit.specs.Seek.{segment, has_slash, own, step, or_else, longest_from, with_suffix, param_step, seek}
use Rattle.matchit.specs.Seek.{first}
use Rattle.wire_requests.specs.Rows.{Has}
use Rattle.wire_requests.specs.Patterns.{fits, suffix, is_at_end, is_plain}
use Rattle.wire_requests.proofs.Texts.{no_slash, with_slash, after_segment, cuts_slash, cuts_at_slash, and_first}
use Rattle.wire_requests.proofs.Texts.{and_last, not_true, AllBytes, bytes_after, short_after, fits_parameter}
use Rattle.wire_requests.proofs.Texts.{fits_byte}
use Rattle.wire_requests.proofs.Suffixes.{slash_ahead, AtEnds, none_longest, found_longest, either_longest}
use Rattle.wire_requests.proofs.Steps.{has_step, step_has, own_has, has_own, suffix_has, has_suffix}

module _ {K : Type 0} where
  empty_step : (p : List ℕ) → (param_step {K = K} [] p).1 ≡ []
  unfolding param_step
  empty_step p =
      elim (has_slash p) as (λ v. (cond {A = ℕ × RowsOf K} v (0, []) (length p, [])).1 ≡ []) [
        | true ↦ refl
        | false ↦ refl
      ]

  seek_empty : (k : ℕ) (p : List ℕ) → seek {K = K} k [] p ≡ None
  unfolding seek
  seek_empty k [] = refl
  seek_empty (suc k) (b ∷ p) = seek_empty k p
  seek_empty zero (b ∷ p) =
      simp (seek_empty 0 p, empty_step (b ∷ p), seek_empty (((param_step {K = K} [] (b ∷ p)).0) - 1) p)

  seek_drop : (k : ℕ) (rs : RowsOf K) (p : List ℕ) → seek k rs p ≡ seek 0 rs (drop k p)
  unfolding seek
  seek_drop zero rs p = refl
  seek_drop (suc k) rs [] = refl
  seek_drop (suc k) rs (b ∷ p) = seek_drop k rs p

  param_none : (rs : RowsOf K) (path : List ℕ) → longest_from (segment path) [] rs ≡ []
      → param_step rs path ≡ cond (has_slash path) (0, []) (length path, rs)
  unfolding param_step
  param_none rs path e =
      ap (λ l. cond (ltb 0 (length l)) (length (segment path) - length l, with_suffix l rs)
      (cond (has_slash path) (0, []) (length path, rs))) e

  param_some : (rs : RowsOf K) (path : List ℕ) → longest_from (segment path) [] rs ≡ 47 ∷ []
      → param_step rs path ≡ (length (segment path) - 1, with_suffix (47 ∷ []) rs)
  unfolding param_step
  param_some rs path e =
      ap (λ l. cond (ltb 0 (length l)) (length (segment path) - length l, with_suffix l rs)
      (cond (has_slash path) (0, []) (length path, rs))) e

  -- what is found by a parameter at the beginning of a path, among the rows that follow it
  abbrev by_parameter : RowsOf K → ℕ → List ℕ → Option K
  by_parameter rs b path = seek ((param_step rs (b ∷ path)).0 - 1) (param_step rs (b ∷ path)).1 path

  by_step : (rs : RowsOf K) (b : ℕ) (path : List ℕ) (p : ℕ × RowsOf K) → param_step rs (b ∷ path) ≡ p
      → by_parameter rs b path ≡ seek 0 p.1 (drop (p.0 - 1) path)
  by_step rs b path p e = ap (λ q. seek (q.0 - 1) q.1 path) e ∙ seek_drop (p.0 - 1) p.1 path

  at_slash : (rs : RowsOf K) (b : ℕ) (path : List ℕ) → AtEnds rs → (b == 47) ≡ true → by_parameter rs b path ≡ None
  at_slash rs b path ends e =
      let none = param_none rs (b ∷ path) (none_longest (segment (b ∷ path)) rs ends (cuts_at_slash b path e)) in
      let here : cond {A = ℕ × RowsOf K} (has_slash (b ∷ path)) (0, []) (length (b ∷ path), rs) ≡ (0, []) =
      ap (λ v. cond {A = ℕ × RowsOf K} (cond v true (has_slash path)) (0, []) (length (b ∷ path), rs)) e in
      by_step rs b path (0, []) (none ∙ here) ∙ seek_empty 0 path

  to_end : (rs : RowsOf K) (b : ℕ) (path : List ℕ) → AtEnds rs → (b == 47) ≡ false → has_slash path ≡ false
      → by_parameter rs b path ≡ own rs
  unfolding seek
  to_end rs b path ends e f =
      let none = param_none rs (b ∷ path) (none_longest (segment (b ∷ path)) rs ends (cuts_slash b path e ∙ f)) in
      let here : cond {A = ℕ × RowsOf K} (has_slash (b ∷ path)) (0, []) (length (b ∷ path), rs)
      ≡ (length (b ∷ path), rs) =
      ap (λ v. cond {A = ℕ × RowsOf K} v (0, []) (length (b ∷ path), rs)) (slash_ahead b path false e f) in
      by_step rs b path (length (b ∷ path), rs) (none ∙ here)
      ∙ ap (λ t. seek 0 rs t) (drop_all (length (b ∷ path) - 1) path (omega arith))

  stuck : (rs : RowsOf K) (b : ℕ) (path : List ℕ) → (b == 47) ≡ false → has_slash path ≡ true
      → longest_from (segment (b ∷ path)) [] rs ≡ [] → by_parameter rs b path ≡ None
  stuck rs b path e f l =
      let here : cond {A = ℕ × RowsOf K} (has_slash (b ∷ path)) (0, []) (length (b ∷ path), rs) ≡ (0, []) =
      ap (λ v. cond {A = ℕ × RowsOf K} v (0, []) (length (b ∷ path), rs)) (slash_ahead b path true e f) in
      by_step rs b path (0, []) (param_none rs (b ∷ path) l ∙ here) ∙ seek_empty 0 path

  to_slash : (rs : RowsOf K) (b : ℕ) (path : List ℕ) → (b == 47) ≡ false → has_slash path ≡ true
      → longest_from (segment (b ∷ path)) [] rs ≡ 47 ∷ []
      → by_parameter rs b path ≡ seek 0 (with_suffix (47 ∷ []) rs) (suffix path)
  to_slash rs b path e f l =
      let size : length (segment (b ∷ path)) ≡ suc (length (segment path)) =
      ap (λ v. length (cond v (b ∷ []) (b ∷ segment path))) e in
      let same : length (segment (b ∷ path)) - 1 - 1 ≡ length (segment path) - 1 = omega arith in
      by_step rs b path (length (segment (b ∷ path)) - 1, with_suffix (47 ∷ []) rs) (param_some rs (b ∷ path) l)
      ∙ ap (λ n. seek 0 (with_suffix (47 ∷ []) rs) (drop n path)) same
      ∙ ap (λ t. seek 0 (with_suffix (47 ∷ []) rs) t) (after_segment path f)

  -- ---- what is found

  abbrev pub AllPlain : RowsOf K → Type 0
  AllPlain rs = (t : List ℕ) (k : K) → Has (t, k) rs → is_plain t ≡ true

  -- a row of that key fits the path
  abbrev pub Fitting : RowsOf K → List ℕ → K → Type 0
  Fitting rs path k = (t : List ℕ) × Has (t, k) rs × (fits t path ≡ true)

  plain_step : (x : ℕ) (rs : RowsOf K) → AllPlain rs → AllPlain (step x rs)
  plain_step x rs plain t k has =
      and_last (nat_le x 256 && (not (x == 256) || is_at_end t)) (is_plain t) (plain (x ∷ t) k (step_has x t k rs has))

  ends_step : (rs : RowsOf K) → AllPlain rs → AtEnds (step 256 rs)
  ends_step rs plain t k has =
      and_last (nat_le 256 256) (not (256 == 256) || is_at_end t)
      (and_first (nat_le 256 256 && (not (256 == 256) || is_at_end t)) (is_plain t)
      (plain (256 ∷ t) k (step_has 256 t k rs has)))

  plain_suffix : (rs : RowsOf K) → AllPlain rs → AllPlain (with_suffix (47 ∷ []) (step 256 rs))
  plain_suffix rs plain t k has = plain_step 256 rs plain t k (suffix_has (47 ∷ []) t k (step 256 rs) has)

  -- no row has a catch-all
  no_catch_all : (rs : RowsOf K) → AllPlain rs → (k : K) → own (step 257 rs) ≡ Some k → ⊥
  no_catch_all rs plain k e = let h : false ≡ true =
      plain (257 ∷ []) k (step_has 257 [] k rs (own_has k (step 257 rs) e)) in cc

  seek_cons : (rs : RowsOf K) (b : ℕ) (path : List ℕ)
      → seek 0 rs (b ∷ path) ≡ or_else (seek 0 (step b rs) path)
      (or_else (by_parameter (step 256 rs) b path) (own (step 257 rs)))
  unfolding seek
  seek_cons rs b path = refl

  module _ (rs : RowsOf K) (b : ℕ) (path : List ℕ) (plain : AllPlain rs) where
    sound_parameter : (k : K) → (seek 0 (with_suffix (47 ∷ []) (step 256 rs)) (suffix path) ≡ Some k
        → Fitting (with_suffix (47 ∷ []) (step 256 rs)) (suffix path) k)
        → by_parameter (step 256 rs) b path ≡ Some k → Fitting rs (b ∷ path) k
    sound_parameter k deeper e = by (b == 47) refl (has_slash path) refl
      where
        either : (b == 47) ≡ false → has_slash path ≡ true
            → (longest_from (segment (b ∷ path)) [] (step 256 rs) ≡ [])
            ⊎ (longest_from (segment (b ∷ path)) [] (step 256 rs) ≡ 47 ∷ []) → Fitting rs (b ∷ path) k
        either apart present (inl l) = let h : None ≡ Some k =
            sym (stuck (step 256 rs) b path apart present l) ∙ e in cc
        either apart present (inr l) =
            let found = deeper (sym (to_slash (step 256 rs) b path apart present l) ∙ e) in (
              256 ∷ found.0,
              step_has 256 found.0 k rs (suffix_has (47 ∷ []) found.0 k (step 256 rs) found.1),
              fits_parameter found.0 b path apart found.2,
            )

        by : (v : Bool) → (b == 47) ≡ v → (w : Bool) → has_slash path ≡ w → Fitting rs (b ∷ path) k
        by true is w present = let h : None ≡ Some k =
            sym (at_slash (step 256 rs) b path (ends_step rs plain) is) ∙ e in cc
        by false is false present =
            let here =
            own_has k (step 256 rs) (sym (to_end (step 256 rs) b path (ends_step rs plain) is present) ∙ e) in
            (256 ∷ [], step_has 256 [] k rs here, fits_parameter [] b path is (ap (fits []) (no_slash path present)))
        by false is true present =
            either is present (either_longest (segment (b ∷ path)) (step 256 rs) (ends_step rs plain)
            (cuts_slash b path is ∙ present))

    sound_step : (k : K) → b < 256 → (seek 0 (step b rs) path ≡ Some k → Fitting (step b rs) path k)
        → (seek 0 (with_suffix (47 ∷ []) (step 256 rs)) (suffix path) ≡ Some k
        → Fitting (with_suffix (47 ∷ []) (step 256 rs)) (suffix path) k)
        → seek 0 rs (b ∷ path) ≡ Some k → Fitting rs (b ∷ path) k
    sound_step k byte next deeper e =
        by (seek 0 (step b rs) path) refl (by_parameter (step 256 rs) b path) refl (sym (seek_cons rs b path) ∙ e)
      where
        by : (a : Option K) → seek 0 (step b rs) path ≡ a → (p : Option K) → by_parameter (step 256 rs) b path ≡ p
            → or_else a (or_else p (own (step 257 rs))) ≡ Some k → Fitting rs (b ∷ path) k
        by (Some l) is p at e = let found =
            next (is ∙ e) in (b ∷ found.0, step_has b found.0 k rs found.1, fits_byte found.0 b path byte found.2)
        by None is (Some l) at e = sound_parameter k deeper (at ∙ e)
        by None is None at e = absurd (no_catch_all rs plain k e)

    complete_parameter : (t : List ℕ) (k : K) → Has (t, k) (step 256 rs) → (b == 47) ≡ false
        → fits t (suffix path) ≡ true
        → (Has (t, k) (with_suffix (47 ∷ []) (step 256 rs))
        → seek 0 (with_suffix (47 ∷ []) (step 256 rs)) (suffix path) ≡ None → ⊥)
        → by_parameter (step 256 rs) b path ≡ None → ⊥
    complete_parameter [] k has apart f deeper e = by (has_slash path) refl
      where
        by : (w : Bool) → has_slash path ≡ w → ⊥
        by false present =
            has_own k (step 256 rs) has (sym (to_end (step 256 rs) b path (ends_step rs plain) apart present) ∙ e)
        by true present = let at = with_slash path present in let h : false ≡ true = sym (ap (fits []) at.1) ∙ f in cc
    complete_parameter (y ∷ u) k has apart f deeper e = by (has_slash path) refl
      where
        by : (w : Bool) → has_slash path ≡ w → ⊥
        by false present = let h : false ≡ true = sym (ap (fits (y ∷ u)) (no_slash path present)) ∙ f in cc
        by true present =
            let ends = ends_step rs plain (y ∷ u) k has in
            let same : y ≡ 47 = grind (arith, nat_tests) in
            let here : Has (47 ∷ u, k) (step 256 rs) = subst (λ z. Has (z ∷ u, k) (step 256 rs)) same has in
            let long =
            found_longest (segment (b ∷ path)) u k (step 256 rs) (ends_step rs plain)
            (cuts_slash b path apart ∙ present) here in
            let one : segment (y ∷ u) ≡ 47 ∷ [] = ap (λ z. segment (z ∷ u)) same in
            deeper (has_suffix (47 ∷ []) (y ∷ u) k (step 256 rs) one has)
            (sym (to_slash (step 256 rs) b path apart present long) ∙ e)

    complete_step : (t : List ℕ) (k : K) → Has (t, k) rs → fits t (b ∷ path) ≡ true
        → ((u : List ℕ) → Has (u, k) (step b rs) → fits u path ≡ true → seek 0 (step b rs) path ≡ None → ⊥)
        → ((u : List ℕ) → Has (u, k) (with_suffix (47 ∷ []) (step 256 rs)) → fits u (suffix path) ≡ true
        → seek 0 (with_suffix (47 ∷ []) (step 256 rs)) (suffix path) ≡ None → ⊥)
        → seek 0 rs (b ∷ path) ≡ None → ⊥
    complete_step [] k has f next deeper e = let h : false ≡ true = f in cc
    complete_step (x ∷ t) k has f next deeper e =
        by (x == 256) refl f (seek 0 (step b rs) path) refl (by_parameter (step 256 rs) b path) refl
        (sym (seek_cons rs b path) ∙ e)
      where
        by : (v : Bool) → (x == 256) ≡ v → cond v (not (b == 47) && fits t (suffix path)) (x == b && fits t path) ≡ true
            → (a : Option K) → seek 0 (step b rs) path ≡ a → (p : Option K) → by_parameter (step 256 rs) b path ≡ p
            → or_else a (or_else p (own (step 257 rs))) ≡ None → ⊥
        by v is f (Some l) found p at e = let h : Some l ≡ None = e in cc
        by v is f None found (Some l) at e = let h : Some l ≡ None = e in cc
        by false is f None found None at e =
            let test = and_first (x == b) (fits t path) f in
            let same : x ≡ b = grind (arith, nat_tests) in
            next t (has_step b t k rs (subst (λ z. Has (z ∷ t, k) rs) same has)) (and_last (x == b) (fits t path) f)
            found
        by true is f None found None at e =
            let same : x ≡ 256 = grind (arith, nat_tests) in
            let rest = and_last (not (b == 47)) (fits t (suffix path)) f in
            let apart = not_true (b == 47) (and_first (not (b == 47)) (fits t (suffix path)) f) in
            complete_parameter t k (has_step 256 t k rs (subst (λ z. Has (z ∷ t, k) rs) same has)) apart rest
            (λ h. deeper t h rest) at

  sound : (n : ℕ) (rs : RowsOf K) (path : List ℕ) → length path ≤ n → AllPlain rs → AllBytes path → (k : K)
      → seek 0 rs path ≡ Some k → Fitting rs path k
  unfolding seek
  sound n rs [] short plain bytes k e = ([], own_has k rs e, refl)
  sound zero rs (b ∷ path) short plain bytes k e = absurd (omega arith)
  sound (suc n) rs (b ∷ path) short plain bytes k e =
      sound_step rs b path plain k (bytes 0)
      (sound n (step b rs) path (omega arith) (plain_step b rs plain) (λ i. bytes (suc i)) k)
      (sound n (with_suffix (47 ∷ []) (step 256 rs)) (suffix path) (omega (arith, short_after path))
      (plain_suffix rs plain) (bytes_after path (λ i. bytes (suc i))) k)
      e

  complete : (n : ℕ) (rs : RowsOf K) (path : List ℕ) → length path ≤ n → AllPlain rs → (t : List ℕ) (k : K)
      → Has (t, k) rs → fits t path ≡ true → seek 0 rs path ≡ None → ⊥
  unfolding seek
  complete n rs [] short plain [] k has f e = has_own k rs has e
  complete n rs [] short plain (x ∷ t) k has f e = let h : false ≡ true = f in cc
  complete zero rs (b ∷ path) short plain t k has f e = absurd (omega arith)
  complete (suc n) rs (b ∷ path) short plain t k has f e =
      complete_step rs b path plain t k has f
      (λ u h g. complete n (step b rs) path (omega arith) (plain_step b rs plain) u k h g)
      (λ u h g. complete n (with_suffix (47 ∷ []) (step 256 rs)) (suffix path) (omega (arith, short_after path))
      (plain_suffix rs plain) u k h g)
      e

  -- The walk finds the key of a row that fits the path, and none only where no row does.
  pub found_fits : (rs : RowsOf K) (path : List ℕ) → AllPlain rs → AllBytes path → (k : K) → first rs path ≡ Some k
      → Fitting rs path k
  found_fits rs path plain bytes k e = sound (length path) rs path (omega arith) plain bytes k e

  pub missing_fits_none : (rs : RowsOf K) (path : List ℕ) → AllPlain rs → first rs path ≡ None → (t : List ℕ) (k : K)
      → Has (t, k) rs → fits t path ≡ true → ⊥
  missing_fits_none rs path plain e t k has f = complete (length path) rs path (omega arith) plain t k has f e
