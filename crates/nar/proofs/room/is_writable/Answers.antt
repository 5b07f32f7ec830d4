use Rattle.std.proofs.Common.{ap, ◌∙◌}
use Rattle.std.specs.Prelude.{is_some}
use Rattle.nar.specs.View.{tree_of}
use Rattle.nar.proofs.Fits.{writable}
use Rattle.nar.proofs.room.is_writable.Goals as goal

pub returns : goal.returns
returns c =
    writable (tree_of c.args.node.now) c.is_some.result (c.is_some.ensures ∙ ap is_some c.room_after_node.ensures)
