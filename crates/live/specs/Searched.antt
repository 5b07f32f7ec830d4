-- A search for a path among rows that rise.
use Rattle.std.specs.Prelude.{◌≡◌, ℕ, ◌≤◌, List, length}
use Rattle.std.specs.List.{AllWithin}
use Rattle.std.specs.declared.cmp.Ordering.TheVariants.{Less, Greater}
use Rattle.paths.specs.Root.{bytes_cmp}
use Rattle.live.specs.Graph.{Path}
use Rattle.live.specs.Numbering.{Rise, paths_of}
use Rattle.live.specs.Arguments.{rows_view}
use Rattle.live.specs.declared.numbered.rows.Row.{Row}

-- where the path may still be among rows that strictly rise: from the low place on, and before the high one
pub record IsSearched (rows : List Row) (p : Path) (low high : ℕ) : Type 0 where
  pub rise : Rise (paths_of (rows_view rows))
  pub ordered : low ≤ high
  pub within : high ≤ length rows
  pub less : AllWithin (λ (r : Row). bytes_cmp r.path.now p ≡ Less) rows 0 low
  pub greater : AllWithin (λ (r : Row). bytes_cmp r.path.now p ≡ Greater) rows high (length rows)
