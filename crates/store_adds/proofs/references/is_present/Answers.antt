use Rattle.std.proofs.Common.{◌||◌, sym, ap, ◌∙◌}
use Rattle.std.specs.Cmp.Lexicographic.{texts_ties}
use Rattle.live.specs.Graph.{same}
use Rattle.store_adds.proofs.references.is_present.Goals as goal

pub returns : goal.returns
returns c =
    let r = c.args.reference.now in
    let p = c.args.path.now in
    c.eq.ensures ∙ texts_ties r p
    ∙ ap (λ b. b || same r p) (sym (sym c.has.ensures ∙ c.if-has.false))
