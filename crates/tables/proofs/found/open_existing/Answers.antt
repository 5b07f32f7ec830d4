use Rattle.std.proofs.Common.{sym, ap, subst, ◌∙◌}
use Rattle.sqlite.specs.Held.{state}
use Rattle.sqlite.specs.State.{HasCleanDisk, Survives}
use Rattle.tables_sql.proofs.Steps.{clean_before}
use Rattle.tables_writes.specs.TablesValue.{TablesValue}
use Rattle.tables.specs.Opening.{OpensExisting}
use Rattle.tables.proofs.Agreed.{agreed, took_over}
use Rattle.tables.proofs.FoundTables.{whole_by}
use Rattle.tables.proofs.found.open_existing.Goals as goal

pub over-requires : goal.over-requires
over-requires g c =
    let a = state g.S.Store c.args.conn in
    let b = state g.S.Store c.read_as.new.conn in
    agreed g.S.Store c.read_as.new.conn a.now c.in-Ok.loaded.dir c.in-Ok.loaded.outline
    (λ clean. (c.in-Ok.ensures.unchanged clean).0.now_is) c.in-Ok.ensures.reported
    (λ clean. let early = clean_before a b _ c.read_as.ensures.frame.survives clean in
    whole_by a.now (c.requires.ready early).of_store (c.requires.found early).further)
    c.read_as.ensures.frame.idle c.read_as.ensures.frame.ready

pub returns-in-Ok : goal.returns-in-Ok
returns-in-Ok g c =
    let a = state g.S.Store c.args.conn in
    let b = state g.S.Store c.read_as.new.conn in
    record {
      dir = ap (λ (t : TablesValue _). t.dir) c.over.ensures ∙ c.in-Ok.ensures.dir;
      opens =
          subst (λ (t : TablesValue _). HasCleanDisk (state g.S.Store t.connection)
          → OpensExisting g.S.Store c.args.dir.now a.now t) (sym c.over.ensures) (λ clean.
          took_over g.S.Store c.read_as.new.conn a.now c.in-Ok.loaded.dir c.in-Ok.loaded.outline
          (λ clean. (c.in-Ok.ensures.unchanged clean).0.now_is) c.in-Ok.ensures.reported
          c.args.dir.now c.in-Ok.ensures.dir
          (c.requires.found (clean_before a b _ c.read_as.ensures.frame.survives clean))
          (c.in-Ok.ensures.unchanged clean).0.is_open clean);
      idle = tt;
      cause = tt;
      same = tt;
      durable = λ is_open db may. g.met.S.Store.settled c.over.result.connection.store db is_open may;
      survives =
          subst (λ (t : TablesValue _). Survives a (state g.S.Store t.connection) (λ _. ⊥)) (sym c.over.ensures)
          c.read_as.ensures.frame.survives;
    }

pub returns-in-Err : goal.returns-in-Err
returns-in-Err g c = record {
  dir = tt;
  opens = tt;
  idle = c.read_as.ensures.frame.idle;
  cause = c.in-Err.ensures.cause;
  same = c.read_as.ensures.frame.same;
  durable = λ is_open db may. g.met.S.Store.settled c.read_as.new.conn.store db is_open may;
  survives = c.read_as.ensures.frame.survives;
}
