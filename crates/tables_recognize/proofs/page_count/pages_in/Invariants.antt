use Rattle.std.proofs.Common.{◌-◌, ◌≤◌}
use Rattle.tables_recognize.proofs.page_count.pages_in.Given as goal

abbrev pub invariant-loop-new : goal.invariant-loop-new
invariant-loop-new l = l.rest ≤ 4294967295

abbrev pub decreases-loop-new : goal.decreases-loop-new
decreases-loop-new l = l.rest - l.new
