use Rattle.std.proofs.Common.{sym, subst}
use Rattle.std.specs.Prelude.{IfSome, Option}
use Rattle.tables_outline.specs.Links.{AreLinksOf, LinksValue}
use Rattle.tables_outline.specs.Turned.{links_of, objects_in}
use Rattle.tables_outline.proofs.TurnedObjects.{ok_turned}
use Rattle.tables_outline.proofs.object_map.Objects.turn.Goals as goal

pub invariant_of-self : goal.invariant_of-self
invariant_of-self c =
    let all = links_of (objects_in c.self.inside.map.entries) in
    subst (λ (o : Option LinksValue). IfSome o (AreLinksOf all)) (sym c.ok.ensures.value)
    (ok_turned (AreLinksOf all) c.turned.result c.turned.ensures)
