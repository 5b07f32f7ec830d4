use Rattle.std.proofs.Common.{◌≡◌, drop}
use Rattle.sqlite.specs.State.{HasCleanDisk, Survives}
use Rattle.sqlite.specs.Held.{state}
use Rattle.tables_sql.specs.Contents.{contents_of}
use Rattle.tables_sql.specs.Rowids.{NumbersOn}
use Rattle.tables_writes.specs.Rewritten.{Covers, without_objects}
use Rattle.tables_sql.proofs.Going.{Goes}
use Rattle.tables_writes.proofs.removal.delete_objects.Given as goal

-- what is left to remove, and that the outline shows of the rows that are left
abbrev pub invariant-paths : goal.invariant-paths
invariant-paths g l = record {
  same_reference : l.tx.conn.ghost_name ≡ l.fn.tx.conn.ghost_name;
  goes : HasCleanDisk (state g.S.Store l.tx.conn.now)
      → Goes without_objects l.paths (state g.S.Store l.fn.tx.conn.now) (state g.S.Store l.tx.conn.now)
      (drop l.path-index l.paths);
  covers : HasCleanDisk (state g.S.Store l.tx.conn.now)
      → Covers l.outline (contents_of (state g.S.Store l.tx.conn.now).now);
  numbers : HasCleanDisk (state g.S.Store l.tx.conn.now)
      → NumbersOn 0 (state g.S.Store l.fn.tx.conn.now).now (state g.S.Store l.tx.conn.now).now;
  survives : Survives (state g.S.Store l.fn.tx.conn.now) (state g.S.Store l.tx.conn.now) (λ _. ⊥);
}
