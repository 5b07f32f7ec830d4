-- A piece taken from its beginning.
use Rattle.std.proofs.Common.{◌≡◌, ℕ, ◌≤◌, List, [], ◌++◌, take, drop, Option, Some, None, sym, ap, ap₂, ◌∙◌, subst}
use Rattle.std.proofs.Common.{append_assoc, append-nil, arith}
use Rattle.std.proofs.lemmas.List.{take-append-drop}
use Rattle.nar.specs.declared.count.Count.{Count}
use Rattle.nar.specs.declared.progress.Progress.{Progress}
use Rattle.nar.specs.Progress.{HasRead, HasReadBefore, turns_by}

-- the prefix of a piece is taken
pub cut : (all consumed piece front rest : List ℕ) (n : ℕ) → all ≡ consumed ++ piece → front ≡ take n piece
    → rest ≡ drop n piece → all ≡ (consumed ++ front) ++ rest
cut all consumed piece front rest n is a b =
    let both : front ++ rest ≡ piece = ap₂ (λ (x y : List ℕ). x ++ y) a b ∙ take-append-drop n piece in
    is ∙ ap (λ (v : List ℕ). consumed ++ v) (sym both) ∙ sym (append_assoc consumed front rest)

pub has_read_all : (p : Progress) (all : List ℕ) → HasReadBefore p [] all → HasRead p all
has_read_all p all h = subst (HasRead p) (sym (h.is ∙ append-nil h.consumed)) h.has_read

pub turns_few : (o : Option Count) → turns_by o ≤ 1
turns_few None = omega arith
turns_few (Some k) = omega arith

pub turns_none : (o : Option Count) → o ≡ None → turns_by o ≡ 0
turns_none o e = ap turns_by e
