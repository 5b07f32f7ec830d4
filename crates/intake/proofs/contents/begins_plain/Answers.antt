use Rattle.std.proofs.Common.{take, ap, ◌∙◌}
use Rattle.std.specs.Str.{bytes_eq}
use Rattle.std.proofs.lemmas.List.{take_min}
use Rattle.nar.specs.String.{string}
use Rattle.intake.specs.Contents.{plain_prefix}
use Rattle.intake.proofs.contents.begins_plain.Goals as goal

pub returns : goal.returns
unfolding plain_prefix string
returns c =
    let front =
    c.split_at.ensures.front ∙ ap (λ n. take n c.args.archive.now) c.min.ensures ∙ take_min 88 c.args.archive.now in
    c.eq.ensures ∙ ap (λ t. bytes_eq t plain_prefix) front
