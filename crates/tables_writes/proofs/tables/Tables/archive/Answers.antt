use Rattle.std.proofs.Common.{refl}
use Rattle.sqlite.specs.Held.{state}
use Rattle.tables_writes.proofs.AfterWrites.{clean_before}
use Rattle.tables_writes.proofs.ReadArchives.{archive_reported, archive_size, none_kept}
use Rattle.tables_writes.proofs.TablesRead.{nothing_read, tables_read, tables_unread}
use Rattle.tables_writes.proofs.tables.Tables.archive.Goals as goal

pub read_archive-requires : goal.read_archive-requires
read_archive-requires g c = record {
  frame = record { idle = c.self.invariant.idle; ready = λ clean is_open. (c.self.invariant.rows clean is_open).ready };
  tables = λ clean is_open. (
    (c.self.invariant.rows clean is_open).whole.pieces,
    record {
      cut = λ o is. (c.self.invariant.rows clean is_open).sound.cut refl c.as_str.result.now o is;
      sized =
          archive_size g.S.Store (record {
            connection = c.self.inside.connection;
            dir = c.self.inside.dir;
            outline = c.self.inside.outline;
          }) c.self.invariant c.as_str.result.now c.args.path.now
          c.as_str.ensures.value
          clean is_open c.in-Some.object.now c.size-size.result c.in-Some.ensures c.size-size.ensures;
    },
  );
}

pub returns : goal.returns
returns g c =
    tables_read g.S.Store _ c.args.self.now c.self.view_is c.self.invariant c.read_archive.new.conn
    c.read_archive.ensures.frame _ _
    (λ clean.
    let read = c.in_ok-found.ensures.reads clean in
    archive_reported g.S.Store _ c.args.self.now c.self.view_is c.as_str.result.now c.args.path.now _
    c.as_str.ensures.value
    (clean_before (state g.S.Store c.self.inside.connection) (state g.S.Store c.read_archive.new.conn) _
    c.read_archive.ensures.frame.survives clean) read.0.0.was_open read.1)
    (λ clean some. let read = c.in_ok-found.ensures.reads clean in (read.0.0.was_open, read.0.0.is_open))
    (λ clean. tt)

pub returns-in_err-found : goal.returns-in_err-found
returns-in_err-found g c =
    tables_unread g.S.Store _ c.args.self.now c.self.view_is c.self.invariant c.read_archive.new.conn
    c.read_archive.ensures.frame _ c.in_err-found.ensures.cause _ _ c.from_residual.ensures.1

pub returns-in_default : goal.returns-in_default
returns-in_default g c =
    nothing_read g.S.Store c.args.self.now _
    (none_kept g.S.Store (record {
      connection = c.self.inside.connection;
      dir = c.self.inside.dir;
      outline = c.self.inside.outline;
    }) c.args.self.now c.self.view_is c.args.path.now c.in_default.ensures)
