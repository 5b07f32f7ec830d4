use Rattle.std.specs.Prelude.{length}
use Rattle.paths.specs.Root.{bytes_cmp}
use Rattle.drv.specs.View.{pairs}
use Rattle.intake.specs.Recorded.{outputs_view}
use Rattle.intake.proofs.FirstEntries.{Precede}
use Rattle.intake.proofs.recorded.by_name.Given as goal

-- what is left
abbrev pub invariant-loop-name : goal.invariant-loop-name
invariant-loop-name l = Precede bytes_cmp (pairs l.left.items) (outputs_view l.map.entries) (pairs l.fn.found.items)

abbrev pub decreases-loop-name : goal.decreases-loop-name
decreases-loop-name l = length l.left.items
