use Rattle.std.proofs.Common.{List, ℕ, sym, ◌∙◌}
use Rattle.std.specs.Ordering.{nat_cmp}
use Rattle.std.specs.Cmp.{nat_cmp_total}
use Rattle.tables_outline.proofs.Orders.{nat_antisymmetric}
use Rattle.tables_outline.proofs.Trees.{has_seen}
use Rattle.tables_outline.proofs.loaded_entries.is_current.Goals as goal

pub returns : goal.returns
returns c =
    c.contains_key.ensures ∙ sym (has_seen nat_cmp (λ (n : ℕ). n) (λ (t : List ℕ). t) nat_cmp_total nat_antisymmetric
    c.args.profile.now.generations.entries c.args.profile.now.current)
