use Rattle.std.proofs.Common.{ℕ, Option, ap, ◌∙◌}
use Rattle.std.specs.Prelude.{unwrap_or}
use Rattle.nar.specs.View.{tree_of}
use Rattle.nar.proofs.Fits.{size_by_room}
use Rattle.nar.proofs.room.archive_size.Goals as goal

pub returns : goal.returns
returns c writable =
    size_by_room (tree_of c.args.node.now) c.unwrap_or-left.result c.saturating_sub.result writable
    (c.unwrap_or-left.ensures ∙ ap (λ (o : Option ℕ). unwrap_or o 0) c.room_after_node.ensures) c.saturating_sub.ensures
