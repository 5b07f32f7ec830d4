use Rattle.std.proofs.Common.{ℕ, List, sym, ap, ◌∙◌}
use Rattle.std.specs.Prelude.{option_map}
use Rattle.std.specs.FinMap as finite
use Rattle.paths.specs.Root.{bytes_cmp}
use Rattle.tables_outline.specs.Outline.{Outlined}
use Rattle.tables_outline.proofs.Orders.{bytes_total, bytes_antisymmetric}
use Rattle.tables_outline.proofs.Trees.{get_seen, seen_copied}
use Rattle.tables_outline.proofs.object_map.Objects.get.Goals as goal

pub returns : goal.returns
returns c =
    seen_copied (λ (o : Outlined). o) c.get.result ∙ ap (option_map (λ (o : Outlined). o)) c.get.ensures.value
    ∙ sym (get_seen bytes_cmp (λ (p : List ℕ). p) (λ (o : Outlined). o) bytes_total bytes_antisymmetric
    c.self.inside.map.entries c.args.path.now)
    ∙ ap (λ (m : finite.FinMap bytes_cmp Outlined). finite.get m c.args.path.now) c.self.view_is
