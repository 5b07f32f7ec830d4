use Rattle.std.proofs.Common.{map, drop, string_bytes}
use Rattle.sqlite.specs.State.{HasCleanDisk, IsUnchanged}
use Rattle.sqlite.specs.Held.{state}
use Rattle.tables_sql.specs.Contents.{contents_of}
use Rattle.tables_rows.specs.Frames.{LeftAsItWas}
use Rattle.tables_load_objects.specs.Rows.{AreStored}
use Rattle.tables_load_objects.specs.Loaded.{filled}
use Rattle.tables_load_objects.proofs.Each.{Decides, Makes}
use Rattle.tables_load_objects.proofs.each_object.load_each.Given as goal

-- what is left decides and makes the rest, and the rows are as they were
abbrev pub invariant-bases : goal.invariant-bases
invariant-bases g l = record {
  frame : LeftAsItWas g.S.Store l.fn.conn l.conn;
  unchanged : HasCleanDisk (state g.S.Store l.conn) → IsUnchanged (state g.S.Store l.fn.conn) (state g.S.Store l.conn);
  decides : HasCleanDisk (state g.S.Store l.conn)
      → Decides l.source.schema l.source.dir.now (contents_of (state g.S.Store l.fn.conn).now) (map string_bytes l.bases)
      (drop l.base-index l.bases);
  makes : HasCleanDisk (state g.S.Store l.conn)
      → Makes (contents_of (state g.S.Store l.fn.conn).now) (filled l.fn.found.items) (map string_bytes l.bases)
      (drop l.base-index l.bases) (filled l.found.items);
  ahead : HasCleanDisk (state g.S.Store l.conn) → AreStored (contents_of (state g.S.Store l.fn.conn).now) l.ahead.items;
}
