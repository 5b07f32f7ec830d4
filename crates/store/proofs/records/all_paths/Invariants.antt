use Rattle.std.proofs.Common.{◌≡◌, ◌++◌}
use Rattle.store.proofs.records.all_paths.Given as goal

-- what is listed, and what is left
abbrev pub invariant-loop-path : goal.invariant-loop-path
invariant-loop-path l = l.paths.items ++ l.path-iterator ≡ l.initial.path-iterator
