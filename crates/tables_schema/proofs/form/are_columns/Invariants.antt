use Rattle.std.proofs.Common.{◌≡◌, map, take}
use Rattle.tables_schema.specs.Shapes.{expected_column}
use Rattle.tables_schema.proofs.form.are_columns.Given as goal

abbrev pub invariant-loop-at : goal.invariant-loop-at
invariant-loop-at l = take l.at l.columns ≡ map expected_column (take l.at l.wanted)
