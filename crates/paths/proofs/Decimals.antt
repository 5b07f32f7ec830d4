-- What std reads of a text, and the number that the text writes.
use Rattle.std.proofs.Common.{◌≡◌, ◌<◌, ◌^◌, ◌&&◌, ◌||◌, ℕ, Bool, cond, true, false, not, List, [], ◌∷◌, length, drop}
use Rattle.std.proofs.Common.{nat_lt, refl, ap, ap₂, sym, subst, ◌∙◌, lt-ltb, ltb-true, Some, None}
use Rattle.std.proofs.lemmas.Bool.{eqb-true}
use Rattle.std.specs.Prelude.{◌==◌, if◌then◌else◌, slice_index}
use Rattle.std.specs.List.{list_all}
use Rattle.std.specs.Char.{digit_value}
use Rattle.std.specs.Str.Parse.{AllDigits, IsNumeral, digits_value, without_leading_plus}
use Rattle.paths.specs.Decimal.{is_digits, has_no_leading_zero, decimal_of}

-- digits pass the test
pub digits_pass : (ds : List ℕ) → AllDigits 10 ds → list_all (λ c. nat_lt (digit_value c) 10) ds ≡ true
digits_pass [] h = refl
digits_pass (d ∷ ds) h = rw (lt-ltb (digit_value d) 10 h.0) (digits_pass ds h.1)

pub both : (a b : Bool) → (a && b) ≡ true → (a ≡ true) × (b ≡ true)
both true b e = (refl, e)
both false b e = cc

-- and what passes it are digits
pub digits_from : (ds : List ℕ) → list_all (λ c. nat_lt (digit_value c) 10) ds ≡ true → AllDigits 10 ds
digits_from [] e = tt
digits_from (d ∷ ds) e =
    let parts = both (nat_lt (digit_value d) 10) _ e in
    (ltb-true _ _ parts.0, digits_from ds parts.1)

and-false : (b : Bool) → (b && false) ≡ false
and-false true = refl
and-false false = refl

drop-none : (t : List ℕ) → drop 0 t ≡ t
drop-none [] = refl
drop-none (c ∷ cs) = refl

-- a text that begins with no plus is what comes after one
without_plus : (t : List ℕ) → (slice_index t 0 == 43) ≡ false → without_leading_plus t ≡ t
without_plus t e = ap (λ b. drop (cond b 1 0) t) e ∙ drop-none t

-- the tests of the definition
abbrev passes : List ℕ → Bool
passes t = is_digits t && (has_no_leading_zero t && nat_lt (digits_value 10 t) (2 ^ 64))

chosen : (t : List ℕ) (b : Bool) → passes t ≡ b → decimal_of t ≡ (if b then Some (digits_value 10 t) else None)
chosen t b e = ap (λ c. if c then Some (digits_value 10 t) else None) e

pub reads : (t : List ℕ) (n : ℕ) → (slice_index t 0 == 43) ≡ false → has_no_leading_zero t ≡ true
    → IsNumeral 10 (without_leading_plus t) → digits_value 10 (without_leading_plus t) < 2 ^ 64
    → n ≡ digits_value 10 (without_leading_plus t)
    → Some n ≡ decimal_of t
reads t n plain zero numeral small is =
    let same = without_plus t plain in
    let digits = subst (IsNumeral 10) same numeral in
    let fits : nat_lt (digits_value 10 t) (2 ^ 64) ≡ true =
    ap (λ ds. nat_lt (digits_value 10 ds) (2 ^ 64)) (sym same) ∙ lt-ltb _ _ small in
    let pass : passes t ≡ true =
    ap₂ (λ a b. a && b) (ap₂ (λ a b. a && b) (lt-ltb _ _ digits.0) (digits_pass t digits.1))
    (ap₂ (λ a b. a && b) zero fits) in
    ap Some (is ∙ ap (digits_value 10) same) ∙ sym (chosen t true pass)

pub reads_none : (t : List ℕ) → (slice_index t 0 == 43) ≡ false
    → ¬ (IsNumeral 10 (without_leading_plus t) × (digits_value 10 (without_leading_plus t) < 2 ^ 64))
    → None ≡ decimal_of t
reads_none t plain fails = by_test (passes t) refl
  where
    by_test : (b : Bool) → passes t ≡ b → None ≡ decimal_of t
    by_test true e =
        let same = sym (without_plus t plain) in
        let parts = both (is_digits t) _ e in
        let digits = both (nat_lt 0 (length t)) _ parts.0 in
        let small = (both (has_no_leading_zero t) _ parts.1).1 in
        absurd (fails (
          subst (IsNumeral 10) same (ltb-true _ _ digits.0, digits_from t digits.1),
          subst (λ ds. digits_value 10 ds < 2 ^ 64) same (ltb-true _ _ small),
        ))
    by_test false e = sym (chosen t false e)

-- a text that begins with a plus is no number
plus : (t : List ℕ) → (slice_index t 0 == 43) ≡ true → passes t ≡ false
plus [] e = refl
plus (c ∷ cs) e =
    let digits : is_digits (c ∷ cs) ≡ false =
    ap (λ x. nat_lt 0 (length (c ∷ cs))
    && (nat_lt (digit_value x) 10 && list_all (λ y. nat_lt (digit_value y) 10) cs)) (eqb-true c 43 e)
    ∙ and-false (nat_lt 0 (length (c ∷ cs))) in
    ap (λ b. b && (has_no_leading_zero (c ∷ cs) && nat_lt (digits_value 10 (c ∷ cs)) (2 ^ 64))) digits

-- nor is one of several bytes that begins with a 0
leading_zero : (t : List ℕ) → has_no_leading_zero t ≡ false → passes t ≡ false
leading_zero t e = ap (λ b. is_digits t && (b && nat_lt (digits_value 10 t) (2 ^ 64))) e ∙ and-false (is_digits t)

-- the two tests of what comes before
pub by_parts : (a z : Bool) → (a || not z) ≡ false → (a ≡ false) × (z ≡ true)
by_parts true z e = cc
by_parts false true e = (refl, refl)
by_parts false false e = cc

pub refused : (t : List ℕ) → (slice_index t 0 == 43 || not (has_no_leading_zero t)) ≡ true → None ≡ decimal_of t
refused t e = by_first (slice_index t 0 == 43) refl
  where
    by_second : (z : Bool) → has_no_leading_zero t ≡ z → (slice_index t 0 == 43) ≡ false → None ≡ decimal_of t
    by_second true z plain = let bad : true ≡ false = sym e ∙ ap₂ (λ a b. a || not b) plain z in cc
    by_second false z plain = sym (chosen t false (leading_zero t z))

    by_first : (a : Bool) → (slice_index t 0 == 43) ≡ a → None ≡ decimal_of t
    by_first true a = sym (chosen t false (plus t a))
    by_first false a = by_second (has_no_leading_zero t) refl a
