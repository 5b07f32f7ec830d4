use Rattle.std.proofs.Common.{ℕ, List, sym, subst, ap, ◌∙◌}
use Rattle.std.specs.Prelude.{Option}
use Rattle.std.specs.FinMap as finite
use Rattle.paths.specs.Root.{bytes_cmp}
use Rattle.tables_outline.specs.Links.{LinksValue}
use Rattle.tables_outline.specs.Maps.{seen_map}
use Rattle.tables_outline.specs.Outline.{Outlined}
use Rattle.tables_outline.specs.Turned.{AreTurned, objects_in}
use Rattle.tables_outline.proofs.Orders.{bytes_total, bytes_antisymmetric}
use Rattle.tables_outline.proofs.Trees.{inserted}
use Rattle.tables_outline.proofs.object_map.Objects.insert.Goals as goal

pub invariant_of-self-2 : goal.invariant_of-self-2
invariant_of-self-2 c =
    let m = objects_in c.self.inside.map.entries in
    let begun = subst (λ (o : Option LinksValue). AreTurned m o) (sym c.take.ensures.value) c.self.invariant in
    subst (λ (n : finite.FinMap bytes_cmp Outlined). AreTurned n c.with_object-links.result)
    (sym (ap (seen_map bytes_cmp (λ (p : List ℕ). p) (λ (o : Outlined). o)) c.in_ok-insert.ensures.entries
    ∙ inserted bytes_cmp (λ (p : List ℕ). p) (λ (o : Outlined). o) bytes_total bytes_antisymmetric
    c.self.inside.map.entries c.args.path c.share_references.new.self))
    (c.with_object-links.ensures (c.fresh-links.ensures begun))

pub returns : goal.returns
returns c = record {
  done =
      ap (seen_map bytes_cmp (λ (p : List ℕ). p) (λ (o : Outlined). o)) c.in_ok-insert.ensures.entries
      ∙ inserted bytes_cmp (λ (p : List ℕ). p) (λ (o : Outlined). o) bytes_total bytes_antisymmetric
      c.self.inside.map.entries c.args.path c.share_references.new.self
      ∙ ap (λ (o : Outlined). finite.insert (objects_in c.self.inside.map.entries) c.args.path o)
      c.share_references.ensures.same
      ∙ ap (λ (m : finite.FinMap bytes_cmp Outlined). finite.insert m c.args.path c.args.object) c.self.view_is;
  failed = tt;
}
