-- Profiles, their generations and how these change.
use Rattle.std.specs.Prelude.{ℕ, ◌+◌, Bool, false, nat_lt, if◌then◌else◌, List, Option, Some, None, unwrap_or}
use Rattle.std.specs.List.{filter, last_or}
use Rattle.std.specs.Ordering.{eq_by_cmp}
use Rattle.std.specs.FinMap as finite
use Rattle.paths.specs.Root.{bytes_cmp}
use Rattle.model.specs.World.{Path, Pair, Profile, World}

abbrev pub new_profile : Profile
new_profile = record { generations = finite.empty; current = 0 }

abbrev pub profile_or_new : Option Profile → Profile
profile_or_new None = new_profile
profile_or_new (Some p) = p

-- the profile of an owner and a name, or one without generations
abbrev pub profile_at : World → Pair → Profile
profile_at w owned = profile_or_new (finite.get w.profiles owned)

abbrev pub has_profile : World → Pair → Bool
has_profile w owned = finite.contains_key w.profiles owned

abbrev pub has_generation : Profile → ℕ → Bool
has_generation p n = finite.contains_key p.generations n

-- the numbers of the generations, rising
abbrev pub numbers : Profile → List ℕ
numbers p = finite.keys p.generations

-- the greatest number of a generation, or 0
abbrev pub highest : Profile → ℕ
highest p = unwrap_or (last_or None (numbers p)) 0

abbrev pub is_path : Option Path → Path → Bool
is_path None p = false
is_path (Some q) p = eq_by_cmp bytes_cmp q p

-- whether a path is that of the highest generation
abbrev pub is_highest : Profile → Path → Bool
is_highest p target = is_path (finite.get p.generations (highest p)) target

-- the number that a path gets: that of the highest generation if it is the path's, else the next
abbrev pub number_for : Profile → Path → ℕ
number_for p target = if is_highest p target then highest p else highest p + 1

-- the greatest number below the current one
abbrev pub previous : Profile → Option ℕ
previous p = last_or None (filter (λ n. nat_lt n p.current) (numbers p))

abbrev pub switched : Profile → ℕ → Profile
switched p n = record p { current = n }

-- a path gets a number, which becomes current
abbrev pub put_at : Profile → ℕ → Path → Profile
put_at p n target = record { generations = finite.insert p.generations n target; current = n }

-- a path is set: the highest generation becomes current if it is the path's, else a new one is made and becomes current
abbrev pub set_to : Profile → Path → Profile
set_to p target = if is_highest p target
    then switched p (highest p)
    else put_at p (highest p + 1) target

-- the greatest generation below the current one becomes current
abbrev pub rolled_back : Profile → Profile
rolled_back p = switched p (unwrap_or (previous p) p.current)

abbrev pub without_generation : Profile → ℕ → Profile
without_generation p n = record p { generations = finite.remove p.generations n }
