use Rattle.std.proofs.Common.{ap, ◌∙◌, List, Bool, ◌||◌, ◌==◌}
use Rattle.tables_outline.specs.LinkLists.{flag_at}
use Rattle.tables_outline.proofs.Listed.{flag_set}
use Rattle.tables_outline.proofs.link_flags.Flags.set.Goals as goal

pub returns : goal.returns
returns c i =
    flag_set c.make_room.new.flags.items c.args.number c.in_ok-make_room.ensures.room i
    ∙ ap (λ b. b || i == c.args.number)
    (c.in_ok-make_room.ensures.same i ∙ ap (λ (fs : List Bool). flag_at fs i) c.self.view_is)
