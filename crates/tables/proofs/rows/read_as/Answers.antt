use Rattle.std.proofs.lemmas.Result.{err_from_is_err_and}
use Rattle.sqlite.specs.Held.{state}
use Rattle.tables_sql.proofs.Steps.{clean_before}
use Rattle.tables.proofs.Causes.{read_cause}
use Rattle.tables.proofs.FoundTables.{unsound}
use Rattle.tables.proofs.InTheWay.{no_store_cause}
use Rattle.tables.proofs.Joined.{none_reported}
use Rattle.tables.proofs.rows.read_as.Goals as goal

pub read-requires : goal.read-requires
read-requires g c = record {
  frame = record { idle = c.requires.idle; ready = λ clean is_open. c.requires.ready clean };
  tables = λ clean is_open. (c.requires.found clean).further;
}

pub returns-in_default : goal.returns-in_default
returns-in_default g c = record {
  frame = c.read.ensures.read.frame;
  dir = tt;
  reported = λ clean. tt;
  unchanged = λ clean. tt;
  cause = λ clean.
      let a = state g.S.Store c.args.conn.now in
      let b = state g.S.Store c.read.new.conn in
      no_store_cause c.args.dir.now a.now
      (unsound c.args.schema a.now (c.requires.found (clean_before a b _ c.read.ensures.read.frame.survives clean))
      (none_reported _ _ c.in_ok-loaded.field-0 c.in_default.is (c.in_ok-loaded.ensures.reported clean)));
}

pub returns-in_err-loaded : goal.returns-in_err-loaded
returns-in_err-loaded g c =
    let p = err_from_is_err_and c.from_residual.result c.from_residual.ensures.1 in
    rw (p.1, p.2) (record {
      frame = c.read.ensures.read.frame;
      dir = tt;
      reported = λ clean. tt;
      unchanged = λ clean. tt;
      cause =
          λ clean. read_cause c.args.dir.now (state g.S.Store c.args.conn.now) (state g.S.Store c.read.new.conn)
          c.in_err-loaded.field-0.0 (c.in_err-loaded.ensures.read.cause clean);
    })
