use Rattle.std.proofs.Common.{arith}
use Rattle.nar.specs.NestView.{symbols_of}
use Rattle.nar.proofs.Taking.{passed_on}
use Rattle.nar.proofs.Counting.{counting_more, dirty_end, skip_refuses, skip_takes}
use Rattle.nar.proofs.progress.Progress.count_on.Goals as goal

pub returns-then-left-gt0-clause-ok : goal.returns-then-left-gt0-clause-ok
returns-then-left-gt0-clause-ok c = λ all bytes h. (
  h.0,
  counting_more c.args.count c.take.new.self c.args.self.now.nest c.args.self.now.room all c.args.prefix.now
      c.take.ensures.counts c.take.ensures.text c.take.ensures.size (omega arith) h.1,
)

pub returns-then-not-count-clause-err : goal.returns-then-not-count-clause-err
returns-then-not-count-clause-err c = λ _ all bytes h.
    dirty_end c.args.count c.take.new.self c.args.self.now.nest c.args.self.now.room all c.args.prefix.now
    c.take.ensures.counts c.take.ensures.text (omega arith) bytes h c.if-not-count.true

pub returns-in_err-skip-clause-err : goal.returns-in_err-skip-clause-err
returns-in_err-skip-clause-err c = passed_on _ _ _ c.from_residual.ensures.1 (λ _ all bytes h.
    skip_refuses c.args.count c.take.new.self c.args.self.now.nest c.args.self.now.room all c.args.prefix.now
    c.take.ensures.counts c.take.ensures.text (omega arith) bytes h
    c.saturating_sub.result c.in_err-skip.field-0.0 c.saturating_sub.ensures c.if-not-count.false
    c.in_err-skip.ensures.err)

pub returns-clause-ok : goal.returns-clause-ok
returns-clause-ok c = λ all bytes h.
    rw (h.0, c.saturating_sub-self.ensures)
    (skip_takes c.args.count c.take.new.self c.args.self.now.nest c.args.self.now.room all c.args.prefix.now
    c.take.ensures.counts c.take.ensures.text (omega arith) bytes h.1
    c.saturating_sub.result (symbols_of c.skip.new.self) c.saturating_sub.ensures c.if-not-count.false
    c.in_ok-skip.ensures.ok)

pub returns-then-left-gt0-clause-done : goal.returns-then-left-gt0-clause-done
returns-then-left-gt0-clause-done c = λ h. absurd (omega arith)
