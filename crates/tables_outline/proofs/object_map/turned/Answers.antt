use Rattle.std.proofs.Common.{List, sym, subst, ◌∙◌}
use Rattle.std.specs.List.Sorted.{IsStrictlySortedBy}
use Rattle.std.specs.Map.{keys_of}
use Rattle.paths.specs.Root.{bytes_cmp}
use Rattle.live.specs.Graph.{Links}
use Rattle.model.specs.World.{Path}
use Rattle.tables_outline.specs.Links.{AreLinksOf, IsAdded, LinksValue}
use Rattle.tables_outline.specs.Outline.{Outlined}
use Rattle.tables_outline.specs.Turned.{links_of, objects_in}
use Rattle.tables_outline.proofs.TurnedAll.{AreTurnedSo, turned_all, turned_more, turned_none}
use Rattle.tables_outline.proofs.object_map.turned.Goals as goal

pub loop-path-init : goal.loop-path-init
loop-path-init c =
    subst (λ (l : LinksValue). AreTurnedSo c.into_iter-path-iterator.result c.into_iter-path-iterator.result l)
    (sym c.new-links.ensures) (turned_none c.into_iter-path-iterator.result)

pub loop-path-preserved : goal.loop-path-preserved
loop-path-preserved c =
    let all = c.into_iter-path-iterator.ensures.into_iter_gives ∙ c.iter-path-items.ensures.rest in
    turned_more c.in-Some.path.now c.in-Some.object.now c.into_iter-path-iterator.result c.loop-path.path-iterator
    c.next.new.self c.loop-path.links c.in_ok-links.links
    (subst (λ (es : List (Path × Outlined)). IsStrictlySortedBy bytes_cmp (keys_of es)) (sym all)
    c.len-count.ensures.ordered) c.in-Some.ensures.steps c.loop-path.invariant
    (subst (λ (l : Links). IsAdded c.loop-path.links c.in_ok-links.links c.in-Some.path.now l)
    (λ i. record { references = c.references.ensures i; outputs = c.outputs.ensures i; deriver = c.deriver.ensures i })
    c.in_ok-links.ensures)

pub returns : goal.returns
returns c =
    subst (λ (es : List (Path × Outlined)). AreLinksOf (links_of (objects_in es)) c.loop-path.links)
    (c.into_iter-path-iterator.ensures.into_iter_gives ∙ c.iter-path-items.ensures.rest)
    (turned_all c.into_iter-path-iterator.result c.loop-path.path-iterator c.loop-path.links c.in-None.ensures.steps.0
    c.loop-path.invariant)
