use Rattle.live.specs.Arguments.{rows_view, roots_view}
use Rattle.live.proofs.Aims.{AimsBelow}
use Rattle.live.proofs.numbered.Roots.new.Given as goal

abbrev pub invariant-loop-root : goal.invariant-loop-root
invariant-loop-root l = AimsBelow (rows_view l.rows) (roots_view l.roots) l.root-index l.targets.items
