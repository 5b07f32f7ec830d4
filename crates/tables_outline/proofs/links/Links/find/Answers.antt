use Rattle.std.proofs.Common.{◌≡◌, ◌<◌, true, Some, length, sym, subst, ◌∙◌}
use Rattle.live.specs.Numbering.{place_of}
use Rattle.tables_outline.specs.Links.{LinksValue, is_held}
use Rattle.tables_outline.specs.LinkNames.{name_at}
use Rattle.tables_outline.specs.LinksView.{links_view}
use Rattle.tables_outline.proofs.LinkedObjects.{found_held}
use Rattle.tables_outline.proofs.links.Links.find.Goals as goal

pub returns-then-at-clause-some : goal.returns-then-at-clause-some
returns-then-at-clause-some c =
    let p = c.args.path.now in
    let i = c.in_ok-number.field-0 in
    subst (λ (l : LinksValue). (place_of l.names p ≡ Some i) × (is_held l p ≡ true) × (i < length l.names)
    × (name_at l.names i ≡ p)) c.self.view_is
    (found_held (links_view c.self.inside) p i (sym c.in_ok-number.ensures) (sym c.at.ensures ∙ c.if-at.true))
