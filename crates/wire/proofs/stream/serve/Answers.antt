use Rattle.std.proofs.Common.{refl, inl, inr}
use Rattle.std.proofs.KnownBytes.{Keeps-refl}
use Rattle.wire.proofs.stream.serve.Goals as goal

pub returns-in-Ok : goal.returns-in-Ok
returns-in-Ok g c = inr (
  c.serve_connection-end.result,
  c.serve_connection-end.ensures.served,
  c.serve_connection-end.ensures.said,
  c.status_of.ensures,
)

pub returns-in-Err : goal.returns-in-Err
returns-in-Err g c = inl (
  (Keeps-refl (g.W.Write.contents c.args.output.now), c.print_failure.ensures),
  Keeps-refl (g.R.Read.remaining c.args.input.now),
  refl,
)
