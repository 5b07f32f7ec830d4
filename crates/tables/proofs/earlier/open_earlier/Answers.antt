use Rattle.std.proofs.Common.{sym, ap, subst, ◌∙◌}
use Rattle.sqlite.specs.Held.{state}
use Rattle.sqlite.specs.State.{HasCleanDisk, Survives}
use Rattle.tables_sql.proofs.Steps.{clean_before}
use Rattle.tables_writes.specs.TablesValue.{TablesValue}
use Rattle.tables.specs.Opening.{OpensMigrated, LeavesMigration}
use Rattle.tables.proofs.Brought.{brought_agrees, took_migrated}
use Rattle.tables.proofs.earlier.open_earlier.Goals as goal

pub over-requires : goal.over-requires
over-requires g c =
    brought_agrees g.S.Store c.read_and_bring.new.conn (state g.S.Store c.args.conn) c.args.schema c.args.dir.now
    c.in-Ok.loaded.dir c.in-Ok.loaded.outline
    c.in-Ok.ensures.dir c.in-Ok.ensures.reported c.in-Ok.ensures.brought c.read_and_bring.ensures.idle

pub returns-in-Ok : goal.returns-in-Ok
returns-in-Ok g c =
    let a = state g.S.Store c.args.conn in
    let d = state g.S.Store c.read_and_bring.new.conn in
    record {
      dir = ap (λ (t : TablesValue _). t.dir) c.over.ensures ∙ c.in-Ok.ensures.dir;
      opens =
          subst (λ (t : TablesValue _). HasCleanDisk (state g.S.Store t.connection)
          → OpensMigrated g.S.Store c.args.schema c.args.dir.now a.now t) (sym c.over.ensures) (λ clean.
          took_migrated g.S.Store c.read_and_bring.new.conn a c.args.schema c.args.dir.now c.in-Ok.loaded.dir
          c.in-Ok.loaded.outline c.in-Ok.ensures.dir c.in-Ok.ensures.reported c.in-Ok.ensures.brought
          (c.requires.found (clean_before a d _ c.read_and_bring.ensures.survives clean)) clean);
      idle = tt;
      cause = tt;
      same = tt;
      durable = λ is_open db may. g.met.S.Store.settled c.over.result.connection.store db is_open may;
      survives =
          subst (λ (t : TablesValue _). Survives a (state g.S.Store t.connection)
          (LeavesMigration c.args.schema c.args.dir.now a.now)) (sym c.over.ensures)
          c.read_and_bring.ensures.survives;
    }

pub returns-in-Err : goal.returns-in-Err
returns-in-Err g c = record {
  dir = tt;
  opens = tt;
  idle = c.read_and_bring.ensures.idle;
  cause = c.in-Err.ensures.cause;
  same = c.in-Err.ensures.same;
  durable = λ is_open db may. g.met.S.Store.settled c.read_and_bring.new.conn.store db is_open may;
  survives = c.read_and_bring.ensures.survives;
}
