use Rattle.std.proofs.Common.{inr}
use Rattle.std.proofs.KnownBytes.{Keeps-refl}
use Rattle.tool_pure.proofs.printed_reply.print_answer.Goals as goal

pub returns-in-Err : goal.returns-in-Err
returns-in-Err g c = inr (Keeps-refl (g.W.Write.contents c.args.output.now), c.say.ensures)
