use Rattle.std.proofs.Common.{ℕ, List, string_bytes, sym, ap, ◌∙◌}
use Rattle.std.specs.Ordering.{eq_by_cmp}
use Rattle.std.specs.Map.{lookup}
use Rattle.std.specs.FinMap as finite
use Rattle.paths.specs.Root.{bytes_cmp}
use Rattle.tables_outline.specs.Maps.{seen_map}
use Rattle.tables_outline.specs.View.{outline_view}
use Rattle.tables_outline.specs.Outline.{OutlineValue}
use Rattle.tables_outline.proofs.Orders.{bytes_total, bytes_antisymmetric}
use Rattle.tables_outline.proofs.Trees.{inserted, get_seen}
use Rattle.tables_outline.proofs.Puts.{option_same}
use Rattle.tables_outline.proofs.outline.Outline.put_permanent.Goals as goal

pub returns : goal.returns
returns c = record {
  done =
      ap (λ m. record (outline_view c.self.inside) { permanent = m })
      (ap (seen_map bytes_cmp string_bytes (λ (t : List ℕ). t)) c.in_ok-had.ensures.entries
      ∙ inserted bytes_cmp string_bytes (λ (t : List ℕ). t) bytes_total bytes_antisymmetric
      c.self.inside.permanent.entries c.args.name c.args.target)
      ∙ ap (λ (o : OutlineValue). record o {
        permanent =
            finite.insert o.permanent (string_bytes c.args.name) c.args.target;
      }) c.self.view_is;
  had =
      c.in_ok-had.ensures.old
      ∙ sym (option_same (lookup (λ k. eq_by_cmp bytes_cmp (string_bytes c.args.name) (string_bytes k))
      c.self.inside.permanent.entries))
      ∙ sym (get_seen bytes_cmp string_bytes (λ (t : List ℕ). t) bytes_total bytes_antisymmetric
      c.self.inside.permanent.entries (string_bytes c.args.name))
      ∙ ap (λ (o : OutlineValue). finite.get o.permanent (string_bytes c.args.name)) c.self.view_is;
  failed = tt;
}
