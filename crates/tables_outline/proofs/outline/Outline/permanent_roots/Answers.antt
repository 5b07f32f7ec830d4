use Rattle.std.proofs.Common.{ℕ, List, string_bytes, sym, ap, ◌∙◌}
use Rattle.std.specs.FinMap as finite
use Rattle.paths.specs.Root.{bytes_cmp}
use Rattle.tables_outline.specs.Outline.{OutlineValue}
use Rattle.tables_outline.proofs.Orders.{bytes_total, bytes_antisymmetric}
use Rattle.tables_outline.proofs.Trees.{listed}
use Rattle.tables_outline.proofs.outline.Outline.permanent_roots.Goals as goal

pub returns : goal.returns
returns c =
    sym (listed bytes_cmp string_bytes (λ (t : List ℕ). t) bytes_total bytes_antisymmetric
    c.self.inside.permanent.entries c.len-count.ensures.ordered)
    ∙ ap (λ (o : OutlineValue). finite.entries o.permanent) c.self.view_is
