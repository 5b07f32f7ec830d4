use Rattle.std.proofs.Common.{◌≡◌, ℕ, List, is_some, ap, ◌∙◌}
use Rattle.std.specs.Ordering.{nat_cmp}
use Rattle.std.specs.FinMap as finite
use Rattle.model.specs.World.{Profile, pair_cmp}
use Rattle.model.specs.Profiles.{new_profile, put_at}
use Rattle.tables_outline.specs.Maps.{seen_map, pair_bytes}
use Rattle.tables_outline.specs.View.{profile_view, outline_view}
use Rattle.tables_outline.specs.Outline.{OutlineValue, with_profile, profile_of}
use Rattle.tables_outline.proofs.Orders.{pair_total, pair_antisymmetric}
use Rattle.tables_outline.proofs.Trees.{inserted}
use Rattle.tables_outline.proofs.ProfileEntries.{new_if_missing}
use Rattle.tables_outline.proofs.outline.Outline.make_profile.Goals as goal

pub returns : goal.returns
returns c =
    let q = pair_bytes c.args.owned in
    let o = outline_view c.self.inside in
    let made : profile_view (record { generations = c.new-generations.result; current = 0 }) ≡ new_profile =
    λ i. record {
      generations = seen_map nat_cmp (λ n. n) (λ (t : List ℕ). t) (c.new-generations.ensures.empty i);
      current = 0;
    } in
    record {
      done =
          ap (λ m. record o { profiles = m })
          (ap (seen_map pair_cmp pair_bytes profile_view) c.in_ok-insert.ensures.entries
          ∙ inserted pair_cmp pair_bytes profile_view pair_total pair_antisymmetric c.self.inside.profiles.entries
          c.args.owned c.put.new.self
          ∙ ap (finite.insert o.profiles q)
          (c.in_ok-put.ensures.done ∙ ap (λ (p : Profile). put_at p c.args.number c.args.target)
          (made ∙ new_if_missing (finite.get o.profiles q)
          (ap (λ (x : OutlineValue). is_some (finite.get x.profiles q)) c.self.view_is ∙ c.requires))))
          ∙ ap (λ (x : OutlineValue). with_profile x q (put_at (profile_of x q) c.args.number c.args.target))
          c.self.view_is;
      failed = tt;
    }
