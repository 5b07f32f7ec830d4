use Rattle.std.proofs.Common.{ℕ, List, sym, ap, ◌∙◌}
use Rattle.std.specs.Ordering.{eq_by_cmp, nat_cmp}
use Rattle.std.specs.Cmp.{nat_cmp_total}
use Rattle.std.specs.Map.{lookup}
use Rattle.std.specs.FinMap as finite
use Rattle.tables_outline.specs.Maps.{seen_map}
use Rattle.tables_outline.specs.View.{profile_view}
use Rattle.tables_outline.proofs.Trees.{removed}
use Rattle.tables_outline.proofs.profiles.Profile.drop_generation.Goals as goal

pub returns : goal.returns
returns c =
    ap (λ m. record (profile_view c.args.self.now) { generations = m })
    (ap (seen_map nat_cmp (λ n. n) (λ (t : List ℕ). t)) c.remove.ensures.entries
    ∙ removed nat_cmp (λ n. n) (λ (t : List ℕ). t) nat_cmp_total finite.nat_cmp-IsAntisymmetric
    c.args.self.now.generations.entries c.args.number
    (ap (lookup (λ k. eq_by_cmp nat_cmp c.args.number k)) (sym c.remove.ensures.entries) ∙ c.remove.ensures.updates.1))
