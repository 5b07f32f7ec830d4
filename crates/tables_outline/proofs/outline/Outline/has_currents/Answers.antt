use Rattle.std.proofs.Common.{List, [], ◌∷◌, ◌≡◌, Bool, ◌&&◌, map, String, Global, refl, sym, ap, ◌∙◌}
use Rattle.std.specs.FinMap as finite
use Rattle.std.specs.List.{list_all}
use Rattle.model.specs.World.{Pair, pair_cmp}
use Rattle.model.specs.World as world
use Rattle.tables_outline.specs.Maps.{pair_bytes}
use Rattle.tables_outline.specs.View.{profile_view}
use Rattle.tables_outline.specs.LoadedEntries.{has_currents}
use Rattle.tables_outline.specs.Outline.{OutlineValue}
use Rattle.tables_outline.specs.declared.profiles.Profile.{Profile}
use Rattle.tables_outline.proofs.Orders.{pair_total, pair_antisymmetric}
use Rattle.tables_outline.proofs.Trees.{listed, seen}
use Rattle.tables_outline.proofs.outline.Outline.has_currents.Goals as goal

abbrev is_current : Profile → Bool
is_current p = finite.contains_key (profile_view p).generations p.current

abbrev test : Pair × world.Profile → Bool
test e = finite.contains_key e.1.generations e.1.current

mapped : (es : List ((String Global × String Global) × Profile))
    → list_all is_current (map (λ (e : (String Global × String Global) × Profile). e.1) es)
    ≡ list_all test (seen pair_cmp pair_bytes profile_view es)
mapped [] = refl
mapped (e ∷ es) = ap (λ b. is_current e.1 && b) (mapped es)

pub returns : goal.returns
returns c =
    c.all_current.ensures ∙ mapped c.self.inside.profiles.entries
    ∙ ap (list_all test) (sym (listed pair_cmp pair_bytes profile_view pair_total pair_antisymmetric
    c.self.inside.profiles.entries c.len-count.ensures.ordered))
    ∙ ap (λ (o : OutlineValue). has_currents o.profiles) c.self.view_is
