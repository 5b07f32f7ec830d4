use Rattle.std.proofs.Common.{◌≡◌, ◌++◌}
use Rattle.tables_load_objects.specs.Known.{borrowed}
use Rattle.tables_load_objects.proofs.members.paths_in.Given as goal

-- what is borrowed, and what is left
abbrev pub invariant-objects : goal.invariant-objects
invariant-objects l = borrowed l.paths.items ++ l.path-iterator ≡ l.initial.path-iterator
