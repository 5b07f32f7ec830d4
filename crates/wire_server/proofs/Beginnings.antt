-- Each head has a space, so bytes of line ends alone begin with none.
use Rattle.std.proofs.Common.{◌≡◌, ℕ, List, ◌++◌, take, drop, true, false, refl, sym, ap, ◌∙◌, take-append-drop}
use Rattle.std.specs.Prelude.{not, ◌==◌, ◌||◌}
use Rattle.std.specs.List.{list_any}
use Rattle.std.proofs.Math.Bool.{or-true}
use Rattle.std.proofs.lemmas.List.Folds.{list_any-append}
use Rattle.httparse.specs.Grammar.{print_blank, HasNoRequest}
use Rattle.httparse.proofs.GrammarLemmas.{print_request-append}
use Rattle.wire_server.specs.Heads.{has_begun_in}

-- it comes after any other bytes
has_begun_after : (a b : List ℕ) → has_begun_in b ≡ true → has_begun_in (a ++ b) ≡ true
has_begun_after a b has =
    list_any-append (λ x. not (x == 13 || x == 10)) a b ∙ ap (λ y. list_any (λ x. not (x == 13 || x == 10)) a || y) has
    ∙ or-true _

-- it comes before any other bytes
pub has_begun_before : (a b : List ℕ) → has_begun_in a ≡ true → has_begun_in (a ++ b) ≡ true
has_begun_before a b has =
    list_any-append (λ x. not (x == 13 || x == 10)) a b ∙ ap (λ y. y || list_any (λ x. not (x == 13 || x == 10)) b) has

pub none_in_line_ends : (buf : List ℕ) → has_begun_in buf ≡ false → HasNoRequest buf
none_in_line_ends buf lacks h rest reads =
    let has : has_begun_in buf ≡ true =
    ap has_begun_in (reads.1 ∙ print_request-append h rest)
    ∙ has_begun_after (print_blank h.blank) _ (has_begun_after h.method _ refl) in
    cc

-- in a prefix or after it
pub has_begun_in-parts : (seen : ℕ) (buf : List ℕ)
    → has_begun_in buf ≡ (has_begun_in (take seen buf) || has_begun_in (drop seen buf))
has_begun_in-parts seen buf =
    ap has_begun_in (sym (take-append-drop seen buf))
    ∙ list_any-append (λ b. not (b == 13 || b == 10)) (take seen buf) (drop seen buf)
