use Rattle.std.proofs.Common.{◌≡◌, ℕ, List, map, take}
use Rattle.std.specs.Borrow.{Bor}
use Rattle.live.specs.Arguments.{rows_view}
use Rattle.live.specs.Numbering.{paths_of}
use Rattle.live.proofs.numbered.texts.texts_of.Given as goal

abbrev pub invariant-loop-row : goal.invariant-loop-row
invariant-loop-row l = map (λ (t : Bor (List ℕ)). t.now) l.texts.items ≡ take l.row-index (paths_of (rows_view l.rows))
