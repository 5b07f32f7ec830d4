use Rattle.std.proofs.Common.{Some, None, ◌∙◌}
use Rattle.store_reach.proofs.Sized.{size_found}
use Rattle.store_reach.proofs.sizes.size_of.Goals as goal

pub returns-in-Some : goal.returns-in-Some
returns-in-Some c =
    c.size.ensures ∙ size_found c.args.outline.now c.args.path.now (Some c.in-Some.object.now) c.in-Some.ensures

pub returns-in-None : goal.returns-in-None
returns-in-None c = size_found c.args.outline.now c.args.path.now None c.in-None.ensures
