use Rattle.std.proofs.Common.{◌≡◌, map}
use Rattle.sqlite.specs.State.{HasCleanDisk, Survives}
use Rattle.sqlite.specs.Held.{state}
use Rattle.tables_sql.specs.Contents.{Contents, contents_of}
use Rattle.tables_world.specs.Pieces.{further_pieces}
use Rattle.tables_writes.specs.Rewritten.{AreFree, put_pieces}
use Rattle.tables_rows.specs.Reasons.{RowsOf}
use Rattle.tables_rows.specs.ObjectRows.{PieceRow}
use Rattle.tables_rows.proofs.Reasons.{AreLeft}
use Rattle.tables_sql.proofs.Going.{Goes}
use Rattle.tables_writes.proofs.Cuts.{left_from}
use Rattle.tables_writes.proofs.archive_pieces.put_pieces.Given as goal

-- what is left to write
abbrev pub invariant-pieces : goal.invariant-pieces
invariant-pieces g l = record {
  same_reference : l.tx.conn.ghost_name ≡ l.fn.tx.conn.ghost_name;
  goes : HasCleanDisk (state g.S.Store l.tx.conn.now)
      → Goes (λ ps (c : Contents). record c { pieces = put_pieces l.base ps c.pieces }) (further_pieces l.nar)
      (state g.S.Store l.fn.tx.conn.now) (state g.S.Store l.tx.conn.now) (left_from l.number l.nar);
  free : HasCleanDisk (state g.S.Store l.tx.conn.now)
      → AreFree (contents_of (state g.S.Store l.tx.conn.now).now).pieces
      (map (λ e. (l.base, e.0)) (left_from l.number l.nar));
  left : HasCleanDisk (state g.S.Store l.tx.conn.now)
      → AreLeft (RowsOf (PieceRow l.base) (further_pieces l.nar)) (RowsOf (PieceRow l.base) (left_from l.number l.nar))
      (state g.S.Store l.fn.tx.conn.now).now (state g.S.Store l.tx.conn.now).now;
  survives : Survives (state g.S.Store l.fn.tx.conn.now) (state g.S.Store l.tx.conn.now) (λ _. ⊥);
}
