use Rattle.std.proofs.Common.{◌≡◌, ◌≤◌, ℕ, None}
use Rattle.std.specs.Prelude.{pos}
use Rattle.std.specs.FinMap as finite
use Rattle.sqlite.specs.State.{HasCleanDisk, Survives}
use Rattle.sqlite.specs.Held.{state}
use Rattle.tables_schema.specs.Forms.{piece}
use Rattle.tables_sql.specs.Contents.{Contents, contents_of}
use Rattle.tables_sql.specs.Calls.{HasFurther}
use Rattle.tables_sql.proofs.Going.{Goes}
use Rattle.tables_world.specs.Pieces.{pieces_by}
use Rattle.tables_make.specs.Cutting.{put_pieces}
use Rattle.tables_rows.specs.ObjectRows.{PieceRow}
use Rattle.tables_rows.specs.Reasons.{RowsOf}
use Rattle.tables_rows.proofs.Reasons.{AreLeft}
use Rattle.tables_make.proofs.archive_cuts.put_pieces.Given as goal

-- what is left to write
abbrev pub invariant-pieces : goal.invariant-pieces
invariant-pieces g l = record {
  same_reference : l.tx.conn.ghost_name ≡ l.fn.tx.conn.ghost_name;
  goes : HasCleanDisk (state g.S.Store l.tx.conn.now)
      → Goes (λ es (c : Contents). record c { pieces = put_pieces l.base es c.pieces }) (pieces_by l.bytes 1 l.bytes)
      (state g.S.Store l.fn.tx.conn.now) (state g.S.Store l.tx.conn.now) (pieces_by l.rest l.number l.rest);
  exists : HasCleanDisk (state g.S.Store l.tx.conn.now) → HasFurther (state g.S.Store l.tx.conn.now).now piece;
  free : HasCleanDisk (state g.S.Store l.tx.conn.now) → (k : ℕ) → l.number ≤ k
      → finite.get (contents_of (state g.S.Store l.tx.conn.now).now).pieces (l.base, pos k) ≡ None;
  left : HasCleanDisk (state g.S.Store l.tx.conn.now)
      → AreLeft (RowsOf (PieceRow l.base) (pieces_by l.bytes 1 l.bytes))
      (RowsOf (PieceRow l.base) (pieces_by l.rest l.number l.rest)) (state g.S.Store l.fn.tx.conn.now).now
      (state g.S.Store l.tx.conn.now).now;
  survives : Survives (state g.S.Store l.fn.tx.conn.now) (state g.S.Store l.tx.conn.now) (λ _. ⊥);
}
