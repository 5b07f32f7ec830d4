use Rattle.std.proofs.Common.{ℕ, List, sym, ap, ◌∙◌}
use Rattle.std.specs.FinMap as finite
use Rattle.paths.specs.Root.{bytes_cmp}
use Rattle.tables_outline.specs.Outline.{Outlined}
use Rattle.tables_outline.proofs.Orders.{bytes_total, bytes_antisymmetric}
use Rattle.tables_outline.proofs.Trees.{listed, seen_same}
use Rattle.tables_outline.proofs.object_map.Objects.all.Goals as goal

pub returns : goal.returns
returns c =
    sym (seen_same c.self.inside.map.entries)
    ∙ sym (listed bytes_cmp (λ (p : List ℕ). p) (λ (o : Outlined). o) bytes_total bytes_antisymmetric
    c.self.inside.map.entries c.len-count.ensures.ordered)
    ∙ ap (λ (m : finite.FinMap bytes_cmp Outlined). finite.entries m) c.self.view_is
