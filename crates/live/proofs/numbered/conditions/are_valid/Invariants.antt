use Rattle.live.specs.Arguments.{rows_view, roots_view}
use Rattle.live.proofs.Conditions.{ValidBelow}
use Rattle.live.proofs.numbered.conditions.are_valid.Given as goal

abbrev pub invariant-loop-root : goal.invariant-loop-root
invariant-loop-root l = ValidBelow (rows_view l.rows) (roots_view l.roots) l.root-index
