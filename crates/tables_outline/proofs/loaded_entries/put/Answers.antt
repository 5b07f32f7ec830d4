use Rattle.std.proofs.Common.{List, ℕ, ap, ◌∙◌}
use Rattle.std.specs.Ordering.{nat_cmp}
use Rattle.std.specs.Cmp.{nat_cmp_total}
use Rattle.model.specs.World.{Profile}
use Rattle.tables_outline.specs.Maps.{seen_map}
use Rattle.tables_outline.proofs.Orders.{nat_antisymmetric}
use Rattle.tables_outline.proofs.Trees.{inserted}
use Rattle.tables_outline.proofs.loaded_entries.put.Goals as goal

pub returns : goal.returns
returns c =
    ap (λ m. let p : Profile = record { generations = m; current = c.args.profile.now.current } in p)
    (ap (seen_map nat_cmp (λ (n : ℕ). n) (λ (t : List ℕ). t)) c.in_ok-insert.ensures.entries
    ∙ inserted nat_cmp (λ (n : ℕ). n) (λ (t : List ℕ). t) nat_cmp_total nat_antisymmetric
    c.args.profile.now.generations.entries c.args.number c.args.target)
