use Rattle.std.proofs.Common.{refl, inl, inr}
use Rattle.wire.proofs.port.serve.Goals as goal

pub returns-in-Ok : goal.returns-in-Ok
returns-in-Ok g c = elim c.listen.ensures [
  | inl taken ↦ inr (inl taken)
  | inr served ↦ inr (inr served)
]

pub returns-in-Err : goal.returns-in-Err
returns-in-Err g c = inl (c.print_failure.ensures, refl)
