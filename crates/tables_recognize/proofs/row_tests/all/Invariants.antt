use Rattle.std.proofs.Common.{◌≡◌, false}
use Rattle.sqlite.specs.State.{HasCleanDisk, Survives}
use Rattle.sqlite.specs.Held.{state}
use Rattle.tables_recognize.specs.Tables.{HasOwnRowids, HasReadableTexts}
use Rattle.tables_recognize.proofs.OneAfterAnother.{AreTested}
use Rattle.tables_recognize.proofs.row_tests.all.Given as goal

abbrev pub invariant-tables : goal.invariant-tables
invariant-tables g l = record {
  idle : l.conn.in_transaction ≡ false;
  tested : HasCleanDisk (state g.S.Store l.conn)
      → AreTested HasOwnRowids HasReadableTexts l.tables (state g.S.Store l.fn.conn) l.table-index
      (state g.S.Store l.conn) l.readable;
  survives : Survives (state g.S.Store l.fn.conn) (state g.S.Store l.conn) (λ _. ⊥);
}
