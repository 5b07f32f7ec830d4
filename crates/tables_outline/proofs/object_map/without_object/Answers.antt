use Rattle.std.proofs.Common.{◌≡◌, ℕ, List, None, Some, sym, subst, ap, ◌∙◌}
use Rattle.std.specs.Prelude.{option_map}
use Rattle.std.specs.FinMap as finite
use Rattle.paths.specs.Root.{bytes_cmp}
use Rattle.live.specs.Graph.{Links}
use Rattle.tables_outline.specs.Links.{AreLinksOf, IsRemoved}
use Rattle.tables_outline.specs.Outline.{Outlined}
use Rattle.tables_outline.specs.Turned.{links_of, objects_in}
use Rattle.tables_outline.proofs.Orders.{bytes_total, bytes_antisymmetric}
use Rattle.tables_outline.proofs.Trees.{get_seen}
use Rattle.tables_outline.proofs.TurnedObjects.{some_turned, turned_removed, turned_unremoved}
use Rattle.tables_outline.proofs.object_map.without_object.Goals as goal

pub returns : goal.returns
returns c are =
    let m = objects_in c.args.map.now.entries in
    let path = c.args.path.now in
    let x = c.in-Some.object.now in
    let here : finite.get m path ≡ Some x =
    get_seen bytes_cmp (λ (p : List ℕ). p) (λ (o : Outlined). o) bytes_total bytes_antisymmetric c.args.map.now.entries
    path ∙ ap (option_map (λ (o : Outlined). o)) (sym c.in-Some.ensures.value) in
    turned_removed m path x c.in_ok-links.links c.remove.new.self here
    (some_turned (AreLinksOf (links_of m)) c.args.links c.in_ok-links.links c.in_ok-links.was are)
    (subst (λ (ls : Links). IsRemoved c.in_ok-links.links c.remove.new.self path ls)
    (λ i. record {
      references = c.references.ensures i;
      outputs = c.outputs.ensures i;
      deriver = c.deriver.ensures i;
    }) c.remove.ensures)

pub returns-in_default : goal.returns-in_default
returns-in_default c are =
    let m = objects_in c.args.map.now.entries in
    let path = c.args.path.now in
    let none : finite.get m path ≡ None =
    get_seen bytes_cmp (λ (p : List ℕ). p) (λ (o : Outlined). o) bytes_total bytes_antisymmetric c.args.map.now.entries
    path ∙ ap (option_map (λ (o : Outlined). o)) (sym c.in_default.ensures.value) in
    turned_unremoved m path c.in_ok-links.links none
    (some_turned (AreLinksOf (links_of m)) c.args.links c.in_ok-links.links c.in_ok-links.was are)
