use Rattle.std.proofs.lemmas.Bool.{false≢true}
use Rattle.wire_requests.proofs.Words.{no_kind}
use Rattle.wire_requests.proofs.requests.Requests.kind.Goals as goal

pub returns-in-Err : goal.returns-in-Err
returns-in-Err c =
    no_kind c.args.method.now (λ token short. absurd (false≢true (c.in-Err.ensures.no_memory_needed token short)))
    c.args.self
