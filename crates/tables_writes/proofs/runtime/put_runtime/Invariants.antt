use Rattle.std.proofs.Common.{◌≡◌, map}
use Rattle.sqlite.specs.State.{HasCleanDisk, Survives}
use Rattle.sqlite.specs.Held.{state}
use Rattle.tables_sql.specs.Contents.{Contents, contents_of}
use Rattle.tables_outline.specs.Maps.{labelled_bytes}
use Rattle.tables_writes.specs.Rewritten.{AreFree, put_pairs}
use Rattle.tables_rows.specs.Reasons.{RowsOf}
use Rattle.tables_writes.specs.RowsPut.{RuntimeRow}
use Rattle.tables_rows.proofs.Reasons.{AreLeft}
use Rattle.tables_sql.proofs.Going.{Goes}
use Rattle.tables_writes.proofs.runtime.put_runtime.Given as goal

-- what is left to write
abbrev pub invariant-roots : goal.invariant-roots
invariant-roots g l = record {
  same_reference : l.tx.conn.ghost_name ≡ l.fn.tx.conn.ghost_name;
  goes : HasCleanDisk (state g.S.Store l.tx.conn.now)
      → Goes (λ ps (c : Contents). record c { runtime = put_pairs ps c.runtime })
      (map labelled_bytes l.initial.root-iterator) (state g.S.Store l.fn.tx.conn.now) (state g.S.Store l.tx.conn.now)
      (map labelled_bytes l.root-iterator);
  free : HasCleanDisk (state g.S.Store l.tx.conn.now)
      → AreFree (contents_of (state g.S.Store l.tx.conn.now).now).runtime (map labelled_bytes l.root-iterator);
  left : HasCleanDisk (state g.S.Store l.tx.conn.now)
      → AreLeft (RowsOf RuntimeRow (map labelled_bytes l.initial.root-iterator))
      (RowsOf RuntimeRow (map labelled_bytes l.root-iterator)) (state g.S.Store l.fn.tx.conn.now).now
      (state g.S.Store l.tx.conn.now).now;
  survives : Survives (state g.S.Store l.fn.tx.conn.now) (state g.S.Store l.tx.conn.now) (λ _. ⊥);
}
