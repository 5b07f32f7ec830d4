use Rattle.std.proofs.Common.{ℕ, List, sym, ◌∙◌}
use Rattle.std.specs.Ordering.{nat_cmp}
use Rattle.std.specs.Cmp.{nat_cmp_total}
use Rattle.std.specs.FinMap as finite
use Rattle.tables_outline.proofs.Trees.{has_seen}
use Rattle.tables_outline.proofs.profiles.Profile.has_generation.Goals as goal

pub returns : goal.returns
returns c =
    c.contains_key.ensures ∙ sym (has_seen nat_cmp (λ n. n) (λ (t : List ℕ). t) nat_cmp_total
    finite.nat_cmp-IsAntisymmetric c.args.self.now.generations.entries c.args.number)
