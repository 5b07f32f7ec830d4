use Rattle.std.proofs.Common.{ap, ◌∙◌, List, Bool, arith}
use Rattle.std.proofs.lemmas.Grind.{common_steps}
use Rattle.tables_outline.specs.LinkLists.{flag_at}
use Rattle.tables_outline.proofs.Listed.{flag_push}
use Rattle.tables_outline.proofs.link_flags.make_room.Goals as goal

pub loop-count-preserved : goal.loop-count-preserved
loop-count-preserved c = record {
  count = grind (arith, common_steps);
  same =
      λ i. ap (λ (fs : List Bool). flag_at fs i) c.in_ok-push.ensures.items ∙ flag_push c.loop-count.flags.items i
      ∙ c.loop-count.invariant.same i;
}
