-- Texts that are looked up among paths.
use Rattle.std.specs.Prelude.{Bool, ◌&&◌, List, map}
use Rattle.std.specs.Borrow.{Bor}
use Rattle.std.specs.List.{list_any}
use Rattle.std.specs.Ordering.{eq_by_cmp}
use Rattle.paths.specs.StorePath.{is_base_name}
use Rattle.paths.specs.Root.{bytes_cmp}
use Rattle.tables_sql.specs.Contents.{Numbered}
use Rattle.model.specs.World.{Path, Pair}

-- borrowed paths
abbrev pub borrowed : List (Bor Path) → List Path
borrowed paths = map (λ p. p.now) paths

-- a base name, and one of the paths
abbrev pub is_known : List Path → Path → Bool
is_known paths p = is_base_name p && list_any (λ q. eq_by_cmp bytes_cmp p q) paths

-- a reference is one of a known path to a known path
abbrev pub is_known_reference : List Path → Pair × Unit {0} → Bool
is_known_reference paths e = is_known paths e.0.0 && is_known paths e.0.1

-- an output is a known path's
abbrev pub is_known_output : List Path → Pair × Path → Bool
is_known_output paths e = is_known paths e.0.0

-- a piece is a known path's
abbrev pub is_known_piece : List Path → Numbered → Bool
is_known_piece paths k = is_known paths k.0
