use Rattle.std.proofs.Common.{not, sym, subst, ap, ◌∙◌}
use Rattle.std.specs.Prelude.{None, Option, if◌then◌else◌}
use Rattle.std.specs.FinMap as finite
use Rattle.paths.specs.Root.{bytes_cmp}
use Rattle.live.specs.Graph.{holds}
use Rattle.tables_outline.specs.Links.{AreLinksOf, LinksValue}
use Rattle.tables_outline.specs.Outline.{Outlined}
use Rattle.tables_outline.specs.Turned.{AreTurned, links_of, objects_in}
use Rattle.tables_outline.proofs.TurnedObjects.{if_turned, turned_retained}
use Rattle.tables_outline.proofs.object_map.Objects.remove_all.Goals as goal

pub invariant_of-self : goal.invariant_of-self
invariant_of-self c =
    subst (λ (o : Option LinksValue). AreTurned (objects_in c.self.inside.map.entries) o)
    (sym c.take-links.ensures.after) tt

pub invariant_of-self-2 : goal.invariant_of-self-2
invariant_of-self-2 c =
    let m = objects_in c.self.inside.map.entries in
    let paths = c.args.paths.now in
    let begun = subst (λ (o : Option LinksValue). AreTurned m o) (sym c.take-links.ensures.value) c.self.invariant in
    subst (λ (n : finite.FinMap bytes_cmp Outlined). AreTurned n c.without_all.result)
    (sym (c.self-2.view_is ∙ c.remove_each-2.ensures))
    (if_turned (AreLinksOf (λ p. if holds paths p then None else links_of m p))
    (AreLinksOf (links_of (finite.retain_keys m (λ p. not (holds paths p))))) c.without_all.result
    (turned_retained m paths) (c.without_all.ensures (links_of m) begun))

pub returns : goal.returns
returns c =
    c.self-2.view_is ∙ c.remove_each-2.ensures
    ∙ ap (λ (m : finite.FinMap bytes_cmp Outlined). finite.retain_keys m (λ p. not (holds c.args.paths.now p)))
    c.self.view_is
