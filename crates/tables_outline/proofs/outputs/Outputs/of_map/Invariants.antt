use Rattle.std.proofs.Common.{◌≡◌, ◌++◌, map}
use Rattle.tables_outline.proofs.OutputLists.{name_of, path_of}
use Rattle.tables_outline.proofs.outputs.Outputs.of_map.Given as goal

-- what is taken, and what is left
abbrev pub invariant-loop-name : goal.invariant-loop-name
invariant-loop-name l = record {
  names : l.names.items ++ map name_of l.name-iterator ≡ map name_of l.fn.outputs.entries;
  paths : l.paths.items ++ map path_of l.name-iterator ≡ map path_of l.fn.outputs.entries;
}
