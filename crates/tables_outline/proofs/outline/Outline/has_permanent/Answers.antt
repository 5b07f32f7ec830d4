use Rattle.std.proofs.Common.{ℕ, List, string_bytes, sym, ap, ◌∙◌}
use Rattle.std.specs.FinMap as finite
use Rattle.paths.specs.Root.{bytes_cmp}
use Rattle.tables_outline.specs.Outline.{OutlineValue}
use Rattle.tables_outline.proofs.Orders.{bytes_total, bytes_antisymmetric}
use Rattle.tables_outline.proofs.Trees.{has_seen}
use Rattle.tables_outline.proofs.outline.Outline.has_permanent.Goals as goal

pub returns : goal.returns
returns c =
    c.contains_key.ensures ∙ sym (has_seen bytes_cmp string_bytes (λ (t : List ℕ). t) bytes_total bytes_antisymmetric
    c.self.inside.permanent.entries c.args.name.now)
    ∙ ap (λ (o : OutlineValue). finite.contains_key o.permanent c.args.name.now) c.self.view_is
