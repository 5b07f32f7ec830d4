use Rattle.std.proofs.Common.{ℕ, List, ap, ◌∙◌}
use Rattle.std.specs.Ordering.{nat_cmp}
use Rattle.std.specs.Cmp.{nat_cmp_total}
use Rattle.std.specs.FinMap as finite
use Rattle.tables_outline.specs.Maps.{seen_map}
use Rattle.tables_outline.proofs.Trees.{inserted}
use Rattle.tables_outline.proofs.profiles.Profile.put.Goals as goal

pub returns : goal.returns
returns c = record {
  done =
      ap (λ m. record { generations = m; current = c.args.number })
      (ap (seen_map nat_cmp (λ n. n) (λ (t : List ℕ). t)) c.in_ok-insert.ensures.entries
      ∙ inserted nat_cmp (λ n. n) (λ (t : List ℕ). t) nat_cmp_total finite.nat_cmp-IsAntisymmetric
      c.args.self.now.generations.entries c.args.number c.args.target);
  failed = tt;
}
