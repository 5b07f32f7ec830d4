-- A number that std reads of a value, and the one that the value writes.
use Rattle.std.proofs.Common.{◌≡◌, ◌<◌, ◌^◌, ◌&&◌, ℕ, Bool, true, false, nat_lt, refl, ap, ap₂, sym, ◌∙◌, lt-ltb}
use Rattle.std.proofs.Common.{ltb-true, Some, None, Option, Result, Ok, Err}
use Rattle.std.specs.Prelude.{if◌then◌else◌, option_and_then}
use Rattle.std.specs.Str.Parse.{IsNumeral, ParsesUnsigned, digits_value, without_leading_plus}
use Rattle.clap.specs.Matches.{ReadsOne}
use Rattle.clap.specs.Walk.{Text}
use Rattle.paths.specs.Decimal.{is_digits}
use Rattle.paths.proofs.Decimals.{digits_pass, digits_from, both}
use Rattle.tool_words.specs.Values.{number_below}

-- the test of the definition
abbrev passes : ℕ → Text → Bool
passes k text = is_digits (without_leading_plus text) && nat_lt (digits_value 10 (without_leading_plus text)) (2 ^ k)

chosen : (k : ℕ) (text : Text) (b : Bool) → passes k text ≡ b
    → number_below k text ≡ (if b then Some (digits_value 10 (without_leading_plus text)) else None)
chosen k text b e = ap (λ c. if c then Some (digits_value 10 (without_leading_plus text)) else None) e

found : (k : ℕ) (text : Text) (n : ℕ) → IsNumeral 10 (without_leading_plus text)
    → digits_value 10 (without_leading_plus text) < 2 ^ k
    → n ≡ digits_value 10 (without_leading_plus text) → Some n ≡ number_below k text
found k text n numeral small is =
    let digits = without_leading_plus text in
    let pass : passes k text ≡ true =
    ap₂ (λ a b. a && b) (ap₂ (λ a b. a && b) (lt-ltb _ _ numeral.0) (digits_pass digits numeral.1))
    (lt-ltb _ _ small) in
    ap Some is ∙ sym (chosen k text true pass)

missing : (k : ℕ) (text : Text)
    → ¬ (IsNumeral 10 (without_leading_plus text) × (digits_value 10 (without_leading_plus text) < 2 ^ k))
    → None ≡ number_below k text
missing k text fails = by_test (passes k text) refl
  where
    by_test : (b : Bool) → passes k text ≡ b → None ≡ number_below k text
    by_test true e =
        let parts = both (is_digits (without_leading_plus text)) _ e in
        let digits = both _ _ parts.0 in
        absurd (fails ((ltb-true _ _ digits.0, digits_from _ digits.1), ltb-true _ _ parts.1))
    by_test false e = sym (chosen k text false e)

pub number_read : {E : Type 0} {gives : Text → Result ℕ E → Type 0} (k : ℕ) (t : Option Text) (result : Option ℕ)
    → ((text : Text) → t ≡ Some text → ReadsOne gives text result)
    → ((text : Text) (r : Result ℕ E) → gives text r → ParsesUnsigned k 10 text r)
    → (t ≡ None → result ≡ None) → result ≡ option_and_then (number_below k) t
number_read k None result value parses none = none refl
number_read k (Some text) (Some n) value parses none =
    let read = parses text (Ok n) (value text refl) in found k text n read.0.0 read.0.1 read.1
number_read k (Some text) None value parses none =
    let read = value text refl in missing k text (parses text (Err read.0) read.1)
