-- Profiles that are filled, one generation after another.
use Rattle.std.specs.Prelude.{ℕ, Bool, Option, Some, None}
use Rattle.std.specs.List.{list_all}
use Rattle.std.specs.FinMap as finite
use Rattle.model.specs.World.{Path, Pair, pair_cmp, Profile}

-- a profile with one generation more
abbrev pub with_number : ℕ → Path → Profile → Profile
with_number n t p = record p { generations = finite.insert p.generations n t }

-- profiles in which this one was found
abbrev pub with_found : Pair → ℕ → Path → finite.FinMap pair_cmp Profile → Option Profile
    → finite.FinMap pair_cmp Profile
with_found owned n t m None = m
with_found owned n t m (Some p) = finite.insert m owned (with_number n t p)

-- profiles, one of which has a generation more, if it is there
abbrev pub with_generation : Pair → ℕ → Path → finite.FinMap pair_cmp Profile → finite.FinMap pair_cmp Profile
with_generation owned n t m = with_found owned n t m (finite.get m owned)

-- each profile has a generation of its current number
abbrev pub has_currents : finite.FinMap pair_cmp Profile → Bool
has_currents m = list_all (λ e. finite.contains_key e.1.generations e.1.current) (finite.entries m)
