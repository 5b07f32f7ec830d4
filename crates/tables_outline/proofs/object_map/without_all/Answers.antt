use Rattle.tables_outline.specs.Links.{AreLinksOf}
use Rattle.tables_outline.proofs.TurnedObjects.{links_after, some_turned}
use Rattle.tables_outline.proofs.object_map.without_all.Goals as goal

pub returns : goal.returns
returns c object are =
    links_after object c.args.paths.now c.in_ok-links.links c.remove_all.new.self
    (some_turned (AreLinksOf object) c.args.links c.in_ok-links.links c.in_ok-links.was are) c.remove_all.ensures
