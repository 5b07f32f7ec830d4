-- A generation that is put into a tree of profiles.
use Rattle.std.proofs.Common.{◌≡◌, ℕ, List, Some, Option, option_map, is_some, String, Global, sym, ap, ◌∙◌}
use Rattle.std.specs.Ordering.{eq_by_cmp}
use Rattle.std.specs.Map.{lookup, set_value}
use Rattle.std.specs.FinMap as finite
use Rattle.model.specs.World.{Path, Pair, pair_cmp}
use Rattle.tables_outline.specs.Maps.{seen_map, pair_bytes}
use Rattle.tables_outline.specs.View.{profile_view}
use Rattle.tables_outline.specs.LoadedEntries.{with_number, with_found, with_generation}
use Rattle.tables_outline.specs.declared.profiles.Profile.{Profile}
use Rattle.tables_outline.proofs.Orders.{pair_total, pair_antisymmetric}
use Rattle.tables_outline.proofs.Trees.{get_seen, has_seen}
use Rattle.tables_outline.proofs.Written.{written}

module _ (es : List ((String Global × String Global) × Profile)) (owned : Pair) where
  abbrev at : Option Profile
  at = lookup (λ k. eq_by_cmp pair_cmp owned (pair_bytes k)) es

  pub profile_present : (o : Option Profile) → at ≡ o
      → finite.contains_key (seen_map pair_cmp pair_bytes profile_view es) owned ≡ is_some o
  profile_present o is =
      has_seen pair_cmp pair_bytes profile_view pair_total pair_antisymmetric es owned ∙ ap is_some is

  pub generation_put : (was now : Profile) (n : ℕ) (t : Path) → at ≡ Some was
      → profile_view now ≡ with_number n t (profile_view was)
      → seen_map pair_cmp pair_bytes profile_view (set_value (λ k. eq_by_cmp pair_cmp owned (pair_bytes k)) es now)
      ≡ with_generation owned n t (seen_map pair_cmp pair_bytes profile_view es)
  generation_put was now n t is put =
      let m = seen_map pair_cmp pair_bytes profile_view es in
      written pair_cmp pair_bytes profile_view pair_total pair_antisymmetric es owned now (ap is_some is)
      ∙ ap (finite.insert m owned) put
      ∙ sym (ap (with_found owned n t m)
      (get_seen pair_cmp pair_bytes profile_view pair_total pair_antisymmetric es owned
      ∙ ap (option_map profile_view) is))
