use Rattle.tables_load_objects.specs.Known.{borrowed}
use Rattle.tables_load_objects.proofs.Known.{all_rise}
use Rattle.tables_load_objects.proofs.members.Paths.of.Goals as goal

pub invariant_of-result : goal.invariant_of-result
invariant_of-result c = all_rise c.args.outline.now.objects (borrowed c.in_ok-paths.paths.items) c.in_ok-paths.ensures
