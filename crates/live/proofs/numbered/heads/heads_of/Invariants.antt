use Rattle.live.specs.Arguments.{rows_view}
use Rattle.live.specs.Numbering.{paths_of}
use Rattle.live.proofs.Headed.{HeadsBelow}
use Rattle.live.proofs.numbered.heads.heads_of.Given as goal

abbrev pub invariant-loop-row : goal.invariant-loop-row
invariant-loop-row l = HeadsBelow (paths_of (rows_view l.rows)) l.row-index l.heads.items
