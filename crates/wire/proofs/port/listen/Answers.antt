use Rattle.std.proofs.Common.{refl, inl, inr}
use Rattle.wire.proofs.port.listen.Goals as goal

pub returns-in-Ok : goal.returns-in-Ok
returns-in-Ok g c = inr c.serve_listener.ensures

pub returns-in-Err : goal.returns-in-Err
returns-in-Err g c = inl (c.print_failure.ensures, refl)
