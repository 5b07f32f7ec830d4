use Rattle.std.proofs.Common.{List, ℕ, ap, ◌∙◌}
use Rattle.std.specs.Ordering.{nat_cmp}
use Rattle.std.specs.FinMap as finite
use Rattle.model.specs.World as world
use Rattle.model.specs.World.{pair_cmp}
use Rattle.tables_outline.specs.Maps.{seen_map, pair_bytes}
use Rattle.tables_outline.specs.View.{outline_view, profile_view}
use Rattle.tables_outline.specs.Outline.{OutlineValue}
use Rattle.tables_outline.specs.declared.profiles.Profile.{Profile}
use Rattle.tables_outline.proofs.Orders.{pair_total, pair_antisymmetric}
use Rattle.tables_outline.proofs.Trees.{inserted}
use Rattle.tables_outline.proofs.outline.Outline.add_profile.Goals as goal

pub returns : goal.returns
returns c =
    let put : Profile = record { generations = c.new-generations.result; current = c.args.current } in
    ap (λ m. record (outline_view c.self.inside) { profiles = m })
    (ap (seen_map pair_cmp pair_bytes profile_view) c.in_ok-insert.ensures.entries
    ∙ inserted pair_cmp pair_bytes profile_view pair_total pair_antisymmetric c.self.inside.profiles.entries
    c.args.owned put)
    ∙ ap (λ (o : OutlineValue). record o {
      profiles =
          finite.insert o.profiles (pair_bytes c.args.owned) (profile_view put);
    }) c.self.view_is
    ∙ ap (λ es. record c.args.self.now {
      profiles =
          finite.insert c.args.self.now.profiles (pair_bytes c.args.owned)
          (let p : world.Profile = record {
            generations = seen_map nat_cmp (λ (n : ℕ). n) (λ (t : List ℕ). t) es;
            current = c.args.current;
          } in p);
    }) c.new-generations.ensures.empty
