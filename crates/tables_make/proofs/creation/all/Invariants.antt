use Rattle.std.proofs.Common.{◌≡◌}
use Rattle.sqlite.specs.State.{HasCleanDisk, KeepsCommit, Survives}
use Rattle.sqlite.specs.Held.{state}
use Rattle.tables_make.proofs.InTurn.{AreMade}
use Rattle.tables_make.proofs.creation.all.Given as goal

abbrev pub invariant-tables : goal.invariant-tables
invariant-tables g l = record {
  same_reference : l.tx.conn.ghost_name ≡ l.fn.tx.conn.ghost_name;
  made : HasCleanDisk (state g.S.Store l.tx.conn.now)
      → AreMade l.tables l.table-index (state g.S.Store l.fn.tx.conn.now) (state g.S.Store l.tx.conn.now);
  kept : HasCleanDisk (state g.S.Store l.tx.conn.now)
      → KeepsCommit (state g.S.Store l.fn.tx.conn.now) (state g.S.Store l.tx.conn.now);
  survives : Survives (state g.S.Store l.fn.tx.conn.now) (state g.S.Store l.tx.conn.now) (λ _. ⊥);
}
