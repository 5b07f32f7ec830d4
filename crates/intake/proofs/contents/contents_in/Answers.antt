use Rattle.std.proofs.Common.{◌≡◌, ◌-◌, ◌++◌, ℕ, length, take, drop, ap, sym, ◌∙◌}
use Rattle.std.proofs.lemmas.List.{take_min, drop_min}
use Rattle.nar.specs.String.{length_at}
use Rattle.intake.specs.Contents.{contents_so_far}
use Rattle.intake.proofs.Growing.{too_short, no_plain, more_contents}
use Rattle.intake.proofs.contents.contents_in.Goals as goal

pub returns-then-first-lt96 : goal.returns-then-first-lt96
returns-then-first-lt96 c = λ old count is. too_short c.args.first.now old c.args.piece.now is c.if-first-lt96.true

pub returns-then-not-begins_plain : goal.returns-then-not-begins_plain
returns-then-not-begins_plain c =
    λ old count is. no_plain c.args.first.now old c.args.piece.now is
    (sym c.begins_plain.ensures ∙ c.if-not-begins_plain.true)

pub returns : goal.returns
returns c = λ old count is.
    let piece = c.args.piece.now in
    let long : ℕ = length_at (drop 88 c.args.first.now) in
    let behind = c.split_at.result.1.now in
    let left : c.saturating_sub-left.result ≡ long - (length old - 96) =
    c.saturating_sub-left.ensures
    ∙ ap (λ n. n - c.saturating_sub-had.result) c.length_after_prefix.ensures
    ∙ ap (λ n. long - n) (c.saturating_sub-had.ensures ∙ ap (λ n. n - 96) (sym count)) in
    let skipped : c.saturating_sub-skipped.result ≡ 96 - length old =
    c.saturating_sub-skipped.ensures ∙ ap (λ n. 96 - n) (sym count) in
    let rest : behind ≡ drop (96 - length old) piece =
    c.split_at.ensures.back ∙ ap (λ n. drop n piece) c.min.ensures ∙ drop_min c.saturating_sub-skipped.result piece
    ∙ ap (λ n. drop n piece) skipped in
    let part : c.split_at-2.result.0.now ≡ take (long - (length old - 96)) (drop (96 - length old) piece) =
    c.split_at-2.ensures.front ∙ ap (λ n. take n behind) c.min-2.ensures ∙ take_min c.saturating_sub-left.result behind
    ∙ ap (λ n. take n behind) left ∙ ap (take (long - (length old - 96))) rest in
    more_contents c.args.first.now old piece is (sym c.begins_plain.ensures ∙ c.if-not-begins_plain.false)
    ∙ ap (λ t. contents_so_far old ++ t) (sym part)
