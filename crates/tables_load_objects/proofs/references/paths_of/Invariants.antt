use Rattle.std.specs.Prelude.{◌≡◌, None, drop, ◌++◌}
use Rattle.std.specs.Option.{option_copied}
use Rattle.tables_load_objects.specs.Tested.{are_paths, targets_of}
use Rattle.tables_load_objects.proofs.references.paths_of.Given as goal

-- what is left decides, and the rest is listed
abbrev pub invariant-rows : goal.invariant-rows
invariant-rows l = record {
  decides : are_paths (option_copied l.last) (targets_of (drop l.row-index l.rows))
      ≡ are_paths None (targets_of l.rows);
  seen : l.found.items ++ targets_of (drop l.row-index l.rows) ≡ targets_of l.rows;
}
