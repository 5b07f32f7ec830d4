use Rattle.std.proofs.Common.{inl}
use Rattle.sqlite.specs.Held.{state}
use Rattle.sqlite.proofs.StateLemmas.{survives_weaker}
use Rattle.tables.proofs.Adopted.{adopts_after}
use Rattle.tables.proofs.Unlimited.{adopts_unlimited}
use Rattle.tables.proofs.adoption.adopt.Goals as goal

pub take-requires : goal.take-requires
take-requires g c = record { idle = c.in-Ok.ensures.idle; found = c.in-Ok.ensures.found }

pub returns-in-Ok : goal.returns-in-Ok
returns-in-Ok g c =
    adopts_unlimited g.S.Store c.args.dir.now c.args.conn c.set_step_limit.new.self c.set_step_limit.ensures _
    (adopts_after g.S.Store c.args.dir.now (state g.S.Store c.set_step_limit.new.self)
    (state g.S.Store c.in-Ok.opened.conn) c.take.result
    c.in-Ok.ensures.unchanged c.in-Ok.ensures.survives c.in-Ok.ensures.same c.take.ensures)

pub returns-in-Err : goal.returns-in-Err
returns-in-Err g c =
    let new = c.in-Err.unreadable.conn in
    adopts_unlimited g.S.Store c.args.dir.now c.args.conn c.set_step_limit.new.self c.set_step_limit.ensures _ (record {
      dir = tt;
      opens = tt;
      idle = c.in-Err.ensures.idle;
      cause = λ clean. inl (c.in-Err.ensures.cause clean);
      same = c.in-Err.ensures.same;
      durable = λ is_open db may. g.met.S.Store.settled new.store db is_open may;
      survives =
          survives_weaker (state g.S.Store c.set_step_limit.new.self) (state g.S.Store new) _ _
          (λ clean db none. absurd none) c.in-Err.ensures.survives;
    })
