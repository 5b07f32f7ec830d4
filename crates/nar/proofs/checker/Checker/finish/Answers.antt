use Rattle.std.proofs.lemmas.Bool.{both_ways}
use Rattle.nar.proofs.Counting.{is_whole, is_early}
use Rattle.nar.proofs.checker.Checker.finish.Goals as goal

pub returns-then-is_done-clause-answer : goal.returns-then-is_done-clause-answer
returns-then-is_done-clause-answer c = λ all h.
    let p = c.args.self.progress in
    is_whole p.count p.nest p.room p.held.items all (c.is_done.ensures.0 c.if-is_done.true) (rw c.in-None.is at h.knows)

pub returns-clause-answer : goal.returns-clause-answer
returns-clause-answer c = λ all h _.
    let p = c.args.self.progress in
    is_early p.count p.nest p.room p.held.items all (λ e. both_ways _ c.if-is_done.false (c.is_done.ensures.1 e))
    h.are_bytes (rw c.in-None.is at h.knows)
