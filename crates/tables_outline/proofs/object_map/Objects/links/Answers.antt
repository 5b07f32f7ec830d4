use Rattle.std.proofs.Common.{subst}
use Rattle.std.specs.Prelude.{IfSome}
use Rattle.std.specs.FinMap as finite
use Rattle.paths.specs.Root.{bytes_cmp}
use Rattle.tables_outline.specs.Links.{AreLinksOf}
use Rattle.tables_outline.specs.Outline.{Outlined}
use Rattle.tables_outline.specs.ObjectMap.{objects_view}
use Rattle.tables_outline.specs.Turned.{links_of}
use Rattle.tables_outline.proofs.TurnedObjects.{if_copied}
use Rattle.tables_outline.proofs.object_map.Objects.links.Goals as goal

pub returns : goal.returns
returns c =
    subst (λ (m : finite.FinMap bytes_cmp Outlined). IfSome c.as_ref.result (λ l. AreLinksOf (links_of m) l.now))
    c.self.view_is
    (if_copied (AreLinksOf (links_of (objects_view c.self.inside))) c.as_ref.result c.self.inside.links
    c.as_ref.ensures.value c.self.invariant)
