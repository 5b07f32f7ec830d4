-- The sizes of the archives of an outline's paths.
use Rattle.std.specs.Prelude.{ℕ, List}
use Rattle.std.specs.List.{sum_by}
use Rattle.std.specs.Option.{option_map_or}
use Rattle.std.specs.FinMap as finite
use Rattle.model.specs.World.{Path}
use Rattle.tables_outline.specs.Outline.{OutlineValue}

-- the bytes of a path's archive
abbrev pub size_in : OutlineValue → Path → ℕ
size_in o p = option_map_or (λ x. x.size) (finite.get o.objects p) 0

abbrev pub bytes_within : OutlineValue → List Path → ℕ
bytes_within o ps = sum_by (size_in o) ps
