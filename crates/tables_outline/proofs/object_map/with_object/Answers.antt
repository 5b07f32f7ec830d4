use Rattle.std.proofs.Common.{◌≡◌, ℕ, List, false, sym, subst, ◌∙◌}
use Rattle.std.specs.Prelude.{IfSome, Option}
use Rattle.std.specs.FinMap as finite
use Rattle.std.proofs.lemmas.Result.{IfOk-weaker}
use Rattle.paths.specs.Root.{bytes_cmp}
use Rattle.live.specs.Graph.{Links}
use Rattle.tables_outline.specs.Links.{AreLinksOf, IsAdded, LinksValue}
use Rattle.tables_outline.specs.Outline.{Outlined}
use Rattle.tables_outline.specs.Turned.{links_of, objects_in}
use Rattle.tables_outline.proofs.Orders.{bytes_total, bytes_antisymmetric}
use Rattle.tables_outline.proofs.Trees.{has_seen}
use Rattle.tables_outline.proofs.TurnedObjects.{ok_turned, some_turned, turned_inserted}
use Rattle.tables_outline.proofs.object_map.with_object.Goals as goal

pub returns : goal.returns
returns c are =
    let m = objects_in c.args.map.now.entries in
    let path = c.args.path.now in
    let x = c.args.object.now in
    let all = links_of (finite.insert m path x) in
    let absent : finite.contains_key m path ≡ false =
    has_seen bytes_cmp (λ (p : List ℕ). p) (λ (o : Outlined). o) bytes_total bytes_antisymmetric
    c.args.map.now.entries path ∙ sym c.contains_key.ensures ∙ c.if-contains_key.false in
    let old = some_turned (AreLinksOf (links_of m)) c.args.links c.in_ok-links.links c.in_ok-links.was are in
    subst (λ (o : Option LinksValue). IfSome o (AreLinksOf all)) (sym c.ok.ensures.value)
    (ok_turned (AreLinksOf all) c.add.result (IfOk-weaker c.add.result _ _
    (λ l e. turned_inserted m path x c.in_ok-links.links l absent old
    (subst (λ (ls : Links). IsAdded c.in_ok-links.links l path ls)
    (λ i. record {
      references = c.references.ensures i;
      outputs = c.outputs.ensures i;
      deriver = c.deriver.ensures i;
    }) e))
    c.add.ensures))
