use Rattle.std.proofs.Common.{arith}
use Rattle.tables.proofs.files.open.Goals as goal

pub take-requires : goal.take-requires
take-requires g c = record { idle = c.in-Ok.ensures.idle; found = c.in-Ok.ensures.found }

pub returns-in-Ok-take-clause-opens : goal.returns-in-Ok-take-clause-opens
returns-in-Ok-take-clause-opens g c =
    let here = c.in-Ok.ensures in
    let now = c.in-Ok-take.ensures in
    record {
      was = here.opened.0;
      conn = c.in-Ok.opened.conn;
      opened = here.opened.1;
      found = λ clean. here.held (omega (arith, now.survives.clean));
      opens = now.opens;
      durable = now.durable;
      survives = now.survives;
    }

pub returns-in-Err-take-clause-cause : goal.returns-in-Err-take-clause-cause
returns-in-Err-take-clause-cause g c =
    let here = c.in-Ok.ensures in
    let now = c.in-Err-take.ensures in
    record {
      was = here.opened.0;
      conn = c.in-Ok.opened.conn;
      opened = here.opened.1;
      found = λ clean. here.held (omega (arith, now.survives.clean));
      because = now.cause;
      idle = now.idle;
      same = now.same;
      durable = now.durable;
      survives = now.survives;
    }
