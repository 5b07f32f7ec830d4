use Rattle.std.proofs.Common.{◌≡◌}
use Rattle.tables_load_roots.specs.Loaded.{all_pass, all_put}
use Rattle.tables_load_roots.proofs.table.load_rows.Given as goal

-- what is left decides, and makes the rest
abbrev pub invariant-rows : goal.invariant-rows
invariant-rows g l = record {
  decides : all_pass g.T.RootTable.passes g.T.RootTable.put l.row-iterator.rest.items l.outline
      ≡ all_pass g.T.RootTable.passes g.T.RootTable.put l.fn.rows.items l.fn.outline;
  makes : all_put g.T.RootTable.put l.row-iterator.rest.items l.outline
      ≡ all_put g.T.RootTable.put l.fn.rows.items l.fn.outline;
}
