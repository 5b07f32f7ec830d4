use Rattle.std.proofs.Common.{◌≡◌, drop, map}
use Rattle.sqlite.specs.State.{HasCleanDisk, Survives}
use Rattle.sqlite.specs.Held.{state}
use Rattle.tables_sql.specs.Contents.{Contents, contents_of}
use Rattle.tables_writes.specs.Rewritten.{AreFree, put_references}
use Rattle.tables_writes.specs.RowsPut.{ReferenceRow}
use Rattle.tables_rows.specs.Reasons.{RowsOf}
use Rattle.tables_rows.proofs.Reasons.{AreLeft}
use Rattle.tables_sql.proofs.Going.{Goes}
use Rattle.tables_writes.proofs.objects.put_references.Given as goal

-- what is left to write
abbrev pub invariant-targets : goal.invariant-targets
invariant-targets g l = record {
  same_reference : l.tx.conn.ghost_name ≡ l.fn.tx.conn.ghost_name;
  goes : HasCleanDisk (state g.S.Store l.tx.conn.now)
      → Goes (λ rs (c : Contents). record c { refs = put_references l.base rs c.refs }) l.targets
      (state g.S.Store l.fn.tx.conn.now) (state g.S.Store l.tx.conn.now) (drop l.target-index l.targets);
  free : HasCleanDisk (state g.S.Store l.tx.conn.now)
      → AreFree (contents_of (state g.S.Store l.tx.conn.now).now).refs
      (map (λ t. (l.base, t)) (drop l.target-index l.targets));
  left : HasCleanDisk (state g.S.Store l.tx.conn.now)
      → AreLeft (RowsOf (ReferenceRow l.base) l.targets) (RowsOf (ReferenceRow l.base) (drop l.target-index l.targets))
      (state g.S.Store l.fn.tx.conn.now).now (state g.S.Store l.tx.conn.now).now;
  survives : Survives (state g.S.Store l.fn.tx.conn.now) (state g.S.Store l.tx.conn.now) (λ _. ⊥);
}
