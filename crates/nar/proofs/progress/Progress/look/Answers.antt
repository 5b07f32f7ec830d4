use Rattle.std.proofs.Common.{List, ℕ, ◌++◌, sym, ap, ◌∙◌, append-nil}
use Rattle.nar.proofs.Taking.{passed_on}
use Rattle.nar.proofs.Counting.{tail_nil, begins_counting}
use Rattle.nar.proofs.progress.Progress.look.Goals as goal

pub returns-in_err-place-clause-err : goal.returns-in_err-place-clause-err
returns-in_err-place-clause-err c = passed_on _ _ _ c.from_residual.ensures.1 c.in_err-place.ensures.err

pub returns-in-None-clause-ok : goal.returns-in-None-clause-ok
returns-in-None-clause-ok c = c.in_ok-place.ensures.ok

pub returns-in-Some-clause-ok : goal.returns-in-Some-clause-ok
returns-in-Some-clause-ok c = λ all fed. (
  tail_nil c.args.bytes.now,
  begins_counting c.in-Some.count c.strings_of.new.nest c.in_ok-place.place.room
      c.in_ok-place.place.rest.now all c.in-Some.ensures.counts c.in-Some.ensures.early c.in-Some.ensures.counted
      (c.in_ok-place.ensures.ok all fed),
)

pub returns-in-Some-clause-suffix : goal.returns-in-Some-clause-suffix
returns-in-Some-clause-suffix c =
    (let bytes = c.args.bytes.now in (bytes, sym (ap (λ (v : List ℕ). bytes ++ v) (tail_nil bytes) ∙ append-nil bytes)))
