use Rattle.std.proofs.Common.{◌≡◌, drop, map, string_bytes}
use Rattle.sqlite.specs.State.{HasCleanDisk, Survives}
use Rattle.sqlite.specs.Held.{state}
use Rattle.tables_schema.specs.Forms.{piece}
use Rattle.tables_sql.specs.Calls.{HasFurther}
use Rattle.tables_sql.specs.Contents.{contents_of}
use Rattle.tables_sql.proofs.Going.{Goes}
use Rattle.model.specs.World.{Path}
use Rattle.tables_make.specs.Cutting.{cut_objects}
use Rattle.tables_make.specs.Migrating.{CutRowsAt, IsUncut}
use Rattle.tables_rows.specs.Reasons.{AreAmong, RowsOf}
use Rattle.tables_rows.proofs.Reasons.{AreLeft}
use Rattle.tables_make.proofs.archive_cuts.cut_all.Given as goal

-- what is left to cut
abbrev pub invariant-bases : goal.invariant-bases
invariant-bases g l = record {
  same_reference : l.tx.conn.ghost_name ≡ l.fn.tx.conn.ghost_name;
  goes : HasCleanDisk (state g.S.Store l.tx.conn.now)
      → Goes cut_objects (map string_bytes l.bases) (state g.S.Store l.fn.tx.conn.now) (state g.S.Store l.tx.conn.now)
      (map string_bytes (drop l.base-index l.bases));
  exists : HasCleanDisk (state g.S.Store l.tx.conn.now) → HasFurther (state g.S.Store l.tx.conn.now).now piece;
  uncut : HasCleanDisk (state g.S.Store l.tx.conn.now) → IsUncut (contents_of (state g.S.Store l.tx.conn.now).now);
  among : HasCleanDisk (state g.S.Store l.tx.conn.now) → (p : Path)
      → AreAmong (CutRowsAt (contents_of (state g.S.Store l.tx.conn.now).now) p)
      (CutRowsAt (contents_of (state g.S.Store l.fn.tx.conn.now).now) p);
  left : HasCleanDisk (state g.S.Store l.tx.conn.now)
      → AreLeft (RowsOf (CutRowsAt (contents_of (state g.S.Store l.fn.tx.conn.now).now)) (map string_bytes l.bases))
      (RowsOf (CutRowsAt (contents_of (state g.S.Store l.fn.tx.conn.now).now))
      (map string_bytes (drop l.base-index l.bases))) (state g.S.Store l.fn.tx.conn.now).now
      (state g.S.Store l.tx.conn.now).now;
  survives : Survives (state g.S.Store l.fn.tx.conn.now) (state g.S.Store l.tx.conn.now) (λ _. ⊥);
}
