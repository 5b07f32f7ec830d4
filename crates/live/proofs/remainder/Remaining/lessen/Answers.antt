use Rattle.std.proofs.Common.{ap, sym, subst}
use Rattle.std.specs.BinaryHeap.{IsHeap}
use Rattle.live.specs.Remainder.{Remaining, least_first}
use Rattle.live.proofs.remainder.Remaining.lessen.Goals as goal

pub returns-in_ok-push-clause-ordered : goal.returns-in_ok-push-clause-ordered
returns-in_ok-push-clause-ordered c h =
    c.in_ok-push.ensures.heap_order
    (subst (IsHeap least_first) (sym (ap (λ (s : Remaining). s.ready) c.self.view_is)) h)
