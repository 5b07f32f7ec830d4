use Rattle.std.proofs.Common.{subst}
use Rattle.std.specs.FinMap as finite
use Rattle.live.specs.Reaching.{AreNumbers}
use Rattle.tables_outline.specs.Links.{AreLinksOf, LinksValue, all_entries}
use Rattle.tables_outline.specs.LinkNames.{name_at}
use Rattle.tables_outline.specs.LinksView.{links_view}
use Rattle.tables_outline.proofs.LinkNumbers.{are_numbers}
use Rattle.tables_outline.proofs.links.Links.are_numbers.Goals as goal

pub returns : goal.returns
returns c g =
    subst (λ (v : LinksValue). AreLinksOf (finite.get g) v → AreNumbers g (all_entries v) (name_at v.names))
    c.self.view_is
    (λ are. are_numbers (links_view c.self.inside) c.self.invariant c.len-count.ensures.distinct g are)
