use Rattle.std.proofs.Common.{◌≡◌, ◌++◌, map}
use Rattle.live.specs.Arguments.{rows_view}
use Rattle.store_reach.specs.Linked.{row_in}
use Rattle.store_reach.proofs.graph.rows.Given as goal

-- the rows so far, and those of what is left
abbrev pub invariant-loop-path : goal.invariant-loop-path
invariant-loop-path l = rows_view l.rows.items ++ map row_in l.path-iterator ≡ map row_in l.initial.path-iterator
