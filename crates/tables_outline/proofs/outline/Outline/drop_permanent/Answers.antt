use Rattle.std.proofs.Common.{ℕ, List, string_bytes, sym, ap, ◌∙◌}
use Rattle.std.specs.Ordering.{eq_by_cmp}
use Rattle.std.specs.Map.{lookup}
use Rattle.std.specs.FinMap as finite
use Rattle.paths.specs.Root.{bytes_cmp}
use Rattle.tables_outline.specs.Maps.{seen_map}
use Rattle.tables_outline.specs.View.{outline_view}
use Rattle.tables_outline.specs.Outline.{OutlineValue}
use Rattle.tables_outline.proofs.Orders.{bytes_total, bytes_antisymmetric}
use Rattle.tables_outline.proofs.Trees.{removed}
use Rattle.tables_outline.proofs.outline.Outline.drop_permanent.Goals as goal

pub returns : goal.returns
returns c =
    ap (λ m. record (outline_view c.self.inside) { permanent = m })
    (ap (seen_map bytes_cmp string_bytes (λ (t : List ℕ). t)) c.remove.ensures.entries
    ∙ removed bytes_cmp string_bytes (λ (t : List ℕ). t) bytes_total bytes_antisymmetric c.self.inside.permanent.entries
    c.args.name.now
    (ap (lookup (λ k. eq_by_cmp bytes_cmp c.args.name.now (string_bytes k))) (sym c.remove.ensures.entries)
    ∙ c.remove.ensures.updates.1))
    ∙ ap (λ (o : OutlineValue). record o { permanent = finite.remove o.permanent c.args.name.now }) c.self.view_is
