use Rattle.std.proofs.Common.{ℕ, List, inl, sym, ap, subst, ◌∙◌, IsTrue, arith}
use Rattle.sqlite.specs.Held.{state}
use Rattle.sqlite.specs.State.{HasCleanDisk, Survives}
use Rattle.paths.specs.Names.{is_store_dir}
use Rattle.tables_make.specs.NewTables.{IsMade, FailsToMake, LeavesMade}
use Rattle.tables_writes.specs.TablesValue.{TablesValue}
use Rattle.tables.proofs.Made.{made_agrees}
use Rattle.tables.specs.Opening.{OpensNew}
use Rattle.tables.proofs.Adopted.{adopts_refused}
use Rattle.tables.proofs.Agreed.{took_new}
use Rattle.tables.proofs.Causes.{make_cause}
use Rattle.tables.proofs.found.open_new.Goals as goal

pub over-requires : goal.over-requires
over-requires g c =
    let old = state g.S.Store c.args.conn in
    let new = state g.S.Store c.make.new.conn in
    let valid : IsTrue (is_store_dir c.in-Ok.own) = ap is_store_dir c.in-Ok.ensures.cases ∙ c.as_str.ensures.valid in
    let made : HasCleanDisk new → IsMade c.in-Ok.own old new =
    λ clean. subst (λ (d : List ℕ). IsMade d old new) (c.as_str.ensures.value ∙ sym c.in-Ok.ensures.cases)
    (c.in-Ok-make.ensures.done clean) in
    made_agrees g.S.Store c.make.new.conn old c.in-Ok.own c.new-outline.result valid c.new-outline.ensures made
    c.make.ensures.idle

pub make-requires : goal.make-requires
make-requires g c = record { idle = c.requires.idle; none = λ clean is_open. c.requires.none clean }

pub returns-in-Ok-make : goal.returns-in-Ok-make
returns-in-Ok-make g c =
    let old = state g.S.Store c.args.conn in
    let new = state g.S.Store c.make.new.conn in
    let valid : IsTrue (is_store_dir c.in-Ok.own) = ap is_store_dir c.in-Ok.ensures.cases ∙ c.as_str.ensures.valid in
    let made : HasCleanDisk new → IsMade c.in-Ok.own old new =
    λ clean. subst (λ (d : List ℕ). IsMade d old new) (c.as_str.ensures.value ∙ sym c.in-Ok.ensures.cases)
    (c.in-Ok-make.ensures.done clean) in
    record {
      dir = ap (λ (t : TablesValue _). t.dir) c.over.ensures ∙ c.in-Ok.ensures.cases;
      opens =
          subst (λ (t : TablesValue _). HasCleanDisk (state g.S.Store t.connection) → OpensNew g.S.Store old.now t)
          (sym c.over.ensures) (λ clean.
          let early : HasCleanDisk old = omega (arith, c.make.ensures.survives.clean) in
          took_new g.S.Store c.make.new.conn old c.in-Ok.own c.new-outline.result valid c.new-outline.ensures made
          (c.requires.none early) clean);
      idle = tt;
      cause = tt;
      same = tt;
      durable = λ is_open db may. g.met.S.Store.settled c.over.result.connection.store db is_open may;
      survives =
          subst (λ (t : TablesValue _). Survives old (state g.S.Store t.connection) (LeavesMade c.args.dir.now old.now))
          (sym c.over.ensures)
          (subst (λ (d : List ℕ). Survives old new (LeavesMade d old.now)) c.as_str.ensures.value
          c.make.ensures.survives);
    }

pub returns-in-Err : goal.returns-in-Err
returns-in-Err g c =
    let old = state g.S.Store c.args.conn in
    let new = state g.S.Store c.make.new.conn in
    record {
      dir = tt;
      opens = tt;
      idle = c.make.ensures.idle;
      cause = λ clean.
          let early : HasCleanDisk old = omega (arith, c.make.ensures.survives.clean, clean) in
          make_cause c.args.dir.now old new c.in-Err.failure (c.requires.none early)
          (subst (λ (d : List ℕ). FailsToMake d old new c.in-Err.failure) c.as_str.ensures.value
          (c.in-Err.ensures.cause clean));
      same = λ clean.
          let early : HasCleanDisk old = omega (arith, c.make.ensures.survives.clean, clean) in
          record {
            was_open = c.make.ensures.was_open clean;
            now = λ up. (c.in-Err.ensures.failed clean up).0 ∙ sym (c.requires.settled early);
            committed = λ up. (c.in-Err.ensures.failed clean up).1;
          };
      durable = λ is_open db may. g.met.S.Store.settled c.make.new.conn.store db is_open may;
      survives =
          subst (λ (d : List ℕ). Survives old new (LeavesMade d old.now)) c.as_str.ensures.value
          c.make.ensures.survives;
    }

pub returns-in_default : goal.returns-in_default
returns-in_default g c =
    adopts_refused g.S.Store c.args.dir.now g.met.S.Store.settled _ c.requires.idle (λ clean. inl tt) _ _
