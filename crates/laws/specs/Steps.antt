-- The law of what marking costs.
use Rattle.std.specs.Prelude.{ℕ, ◌+◌, ◌≤◌, List, length, sum_by}
use Rattle.paths.specs.Root.{Root}
use Rattle.live.specs.Graph.{Keep}
use Rattle.live.specs.Places.{Entries, counting}
use Rattle.live.specs.Numbering.{Row, numbered}
use Rattle.live.specs.Marks.{Marking, IsMarking}
use Rattle.live.specs.Exact.{IsExact}

-- a step for each object and for each of its entries that count
abbrev pub steps_of : Keep → List Entries → ℕ
steps_of keep rows = length rows + sum_by (λ (e : Entries). length (counting keep e)) rows

-- marking takes at most a step for each object, each entry that counts and each root
pub record TakesFewSteps (keep : Keep) : Type 0 where
  pub places : (rows : List Entries) (targets : List ℕ) (m : Marking) → IsMarking keep rows targets m
      → m.steps ≤ steps_of keep rows + length targets
  pub paths : (rows : List Row) (roots : List Root) (m : Marking) → IsExact keep rows roots m
      → m.steps ≤ length rows + sum_by (λ (e : Entries). length (counting keep e)) (numbered rows) + length roots
