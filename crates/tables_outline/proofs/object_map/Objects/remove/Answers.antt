use Rattle.std.proofs.Common.{ℕ, List, sym, subst, ap, ◌∙◌}
use Rattle.std.specs.Ordering.{eq_by_cmp}
use Rattle.std.specs.Map.{lookup}
use Rattle.std.specs.Prelude.{Option}
use Rattle.std.specs.FinMap as finite
use Rattle.paths.specs.Root.{bytes_cmp}
use Rattle.tables_outline.specs.Links.{LinksValue}
use Rattle.tables_outline.specs.Maps.{seen_map}
use Rattle.tables_outline.specs.Outline.{Outlined}
use Rattle.tables_outline.specs.Turned.{AreTurned, objects_in}
use Rattle.tables_outline.proofs.Orders.{bytes_total, bytes_antisymmetric}
use Rattle.tables_outline.proofs.Trees.{removed}
use Rattle.tables_outline.proofs.object_map.Objects.remove.Goals as goal

pub invariant_of-self : goal.invariant_of-self
invariant_of-self c =
    subst (λ (m : finite.FinMap bytes_cmp Outlined). AreTurned m c.without_object-links.result)
    (sym (ap (seen_map bytes_cmp (λ (p : List ℕ). p) (λ (o : Outlined). o)) c.remove.ensures.entries
    ∙ removed bytes_cmp (λ (p : List ℕ). p) (λ (o : Outlined). o) bytes_total bytes_antisymmetric
    c.self.inside.map.entries c.args.path.now
    (ap (lookup (λ k. eq_by_cmp bytes_cmp c.args.path.now k)) (sym c.remove.ensures.entries)
    ∙ c.remove.ensures.updates.1)))
    (c.without_object-links.ensures
    (subst (λ (o : Option LinksValue). AreTurned (objects_in c.self.inside.map.entries) o)
    (sym c.take.ensures.value) c.self.invariant))

pub returns : goal.returns
returns c =
    (ap (seen_map bytes_cmp (λ (p : List ℕ). p) (λ (o : Outlined). o)) c.remove.ensures.entries
    ∙ removed bytes_cmp (λ (p : List ℕ). p) (λ (o : Outlined). o) bytes_total bytes_antisymmetric
    c.self.inside.map.entries c.args.path.now
    (ap (lookup (λ k. eq_by_cmp bytes_cmp c.args.path.now k)) (sym c.remove.ensures.entries)
    ∙ c.remove.ensures.updates.1))
    ∙ ap (λ (m : finite.FinMap bytes_cmp Outlined). finite.remove m c.args.path.now) c.self.view_is
