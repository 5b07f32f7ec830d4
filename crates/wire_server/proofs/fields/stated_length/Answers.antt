use Rattle.std.proofs.Common.{◌≡◌, ℕ, ◌+◌, ◌-◌, ◌≤◌, take, get_or, true, arith, ◌∙◌, sym}
use Rattle.std.specs.List.{list_all}
use Rattle.std.specs.Prelude.{Bool, List, ◌<◌, length}
use Rattle.std.specs.Char.{is_ascii_digit, digit_value}
use Rattle.std.proofs.lemmas.Bool.Decides.{nat_tests}
use Rattle.std.proofs.lemmas.List.Folds.{list_all_more}
use Rattle.std.proofs.lemmas.Int.Digits.{digits_value_more}
use Rattle.wire_server.proofs.fields.stated_length.Goals as goal

digit_plain : (b : ℕ) → 48 ≤ b → b ≤ 57 → digit_value b ≡ b - 48
digit_plain b low high = grind (arith, nat_tests)

both : (p : ℕ → Bool) (text : List ℕ) (i : ℕ) → i < length text → list_all p (take i text) ≡ true
    → p (get_or text i 0) ≡ true
    → list_all p (take (i + 1) text) ≡ true
both p text i h all one = list_all_more p text i 0 h ∙ cc

-- src/fields.rt:42:5
pub loop-byte-preserved : goal.loop-byte-preserved
loop-byte-preserved c =
    let text = c.args.text.now in
    let i = c.loop-byte.byte-index in
    let digit = sym c.is_ascii_digit.ensures.value ∙ c.if-not-is_ascii_digit.false in
    let range = rw c.if-not-is_ascii_digit.false at c.is_ascii_digit.ensures.cases in
    let plain = digit_plain (get_or text i 0) range.0 range.1 in
    let more = digits_value_more 10 text i c.loop-byte-test.true in
    (both is_ascii_digit text i c.loop-byte-test.true c.loop-byte.invariant.0 digit, omega arith)
