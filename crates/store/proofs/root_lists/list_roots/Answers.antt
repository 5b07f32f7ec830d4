use Rattle.std.proofs.Common.{refl, ap, ◌∙◌}
use Rattle.policy.specs.declared.kinds.Class.{Class}
use Rattle.model.specs.Reply.{roots}
use Rattle.model.specs.Seen.{seen}
use Rattle.model.specs.World.{roots_of}
use Rattle.store.proofs.root_lists.list_roots.Goals as goal

pub returns : goal.returns
returns c s caller is w reported = (
  refl,
  ap roots (c.in_ok-roots.ensures w reported ∙ ap (λ (class : Class). seen class (roots_of w)) is),
  refl,
)
