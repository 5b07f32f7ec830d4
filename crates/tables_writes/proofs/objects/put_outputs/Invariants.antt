use Rattle.std.proofs.Common.{◌≡◌, drop, map, string_bytes}
use Rattle.std.specs.List.{zip}
use Rattle.sqlite.specs.State.{HasCleanDisk, Survives}
use Rattle.sqlite.specs.Held.{state}
use Rattle.tables_sql.specs.Contents.{Contents, contents_of}
use Rattle.tables_writes.specs.Rewritten.{AreFree, put_outputs}
use Rattle.tables_writes.specs.RowsPut.{OutputRow}
use Rattle.tables_rows.specs.Reasons.{RowsOf}
use Rattle.tables_rows.proofs.Reasons.{AreLeft}
use Rattle.tables_sql.proofs.Going.{Goes}
use Rattle.tables_writes.proofs.objects.put_outputs.Given as goal

-- what is left to write
abbrev pub invariant-outputs : goal.invariant-outputs
invariant-outputs g l = record {
  same_reference : l.tx.conn.ghost_name ≡ l.fn.tx.conn.ghost_name;
  goes : HasCleanDisk (state g.S.Store l.tx.conn.now)
      → Goes (λ es (c : Contents). record c { outs = put_outputs l.base es c.outs })
      (zip (map string_bytes l.names) l.fn.outputs) (state g.S.Store l.fn.tx.conn.now) (state g.S.Store l.tx.conn.now)
      (drop l.i (zip (map string_bytes l.names) l.fn.outputs));
  free : HasCleanDisk (state g.S.Store l.tx.conn.now)
      → AreFree (contents_of (state g.S.Store l.tx.conn.now).now).outs
      (map (λ e. (l.base, e.0)) (drop l.i (zip (map string_bytes l.names) l.fn.outputs)));
  left : HasCleanDisk (state g.S.Store l.tx.conn.now)
      → AreLeft (RowsOf (OutputRow l.base) (zip (map string_bytes l.names) l.fn.outputs))
      (RowsOf (OutputRow l.base) (drop l.i (zip (map string_bytes l.names) l.fn.outputs)))
      (state g.S.Store l.fn.tx.conn.now).now (state g.S.Store l.tx.conn.now).now;
  survives : Survives (state g.S.Store l.fn.tx.conn.now) (state g.S.Store l.tx.conn.now) (λ _. ⊥);
}
