-- What the outline in memory means.
use Rattle.std.specs.Prelude.{string_bytes}
use Rattle.std.specs.Ordering.{nat_cmp}
use Rattle.paths.specs.Root.{bytes_cmp}
use Rattle.model.specs.World.{pair_cmp, temporary_cmp}
use Rattle.model.specs.World as world
use Rattle.tables_outline.specs.Maps.{seen_map, seen_set, pair_bytes, labelled_bytes, temporary_bytes}
use Rattle.tables_outline.specs.Outline.{OutlineValue}
use Rattle.tables_outline.specs.declared.profiles.Profile.{Profile}
use Rattle.tables_outline.specs.declared.outline.Outline.TheInside.{Inside}

abbrev pub profile_view : Profile → world.Profile
profile_view p = record { generations = seen_map nat_cmp (λ n. n) (λ t. t) p.generations.entries; current = p.current }

abbrev pub outline_view : Inside → OutlineValue
outline_view i = record {
  objects = i.objects;
  permanent = seen_map bytes_cmp string_bytes (λ t. t) i.permanent.entries;
  user_roots = seen_map pair_cmp pair_bytes (λ t. t) i.user_roots.entries;
  profiles = seen_map pair_cmp pair_bytes profile_view i.profiles.entries;
  runtime = seen_set pair_cmp labelled_bytes i.runtime.keys;
  temporary = seen_set temporary_cmp temporary_bytes i.temporary.keys;
}
