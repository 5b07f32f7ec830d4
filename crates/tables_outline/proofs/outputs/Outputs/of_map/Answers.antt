use Rattle.tables_outline.proofs.OutputLists.{name_of, path_of, consumed, listed_as}
use Rattle.tables_outline.proofs.outputs.Outputs.of_map.Goals as goal

pub returns : goal.returns
returns c =
    let es = c.args.outputs.entries in
    listed_as es c.into_iter-name-iterator.ensures.into_iter_gives.5 c.loop-name.names.items c.loop-name.paths.items
    (consumed name_of c.loop-name.names.items c.loop-name.name-iterator es c.in-None.ensures.steps.0
    c.loop-name.invariant.names)
    (consumed path_of c.loop-name.paths.items c.loop-name.name-iterator es c.in-None.ensures.steps.0
    c.loop-name.invariant.paths)
