use Rattle.std.proofs.Common.{◌≢◌, [], sym, ap, ◌∙◌, length, arith}
use Rattle.std.proofs.lemmas.Bool.{eqb-false, both_ways}
use Rattle.nar.specs.NestView.{symbols_of}
use Rattle.nar.proofs.Taking.{passed_on}
use Rattle.nar.proofs.Feeding.{next_takes, ends_refuse, rest_bytes, step_err, string_err_of, ends_step}
use Rattle.nar.proofs.Directory.{string_shorter}
use Rattle.nar.proofs.progress.strings_of.Goals as goal

pub returns-then-not-is_empty-clause-err : goal.returns-then-not-is_empty-clause-err
returns-then-not-is_empty-clause-err c = λ _ all fed.
    let so_far = c.strings.invariant in
    let some = eqb-false (length c.strings.at.rest.now) 0 (sym c.is_empty.ensures ∙ c.if-not-is_empty.true) in (
      ends_refuse (symbols_of c.strings.nest) c.strings.at.room c.strings.at.rest.now all
          (c.is_done.ensures.0 c.if-is_done.true) (λ none. some (ap length none)) so_far.bytes (so_far.fed all fed),
      λ e. absurd cc,
    )

pub returns-in_err-step-in-Ok-clause-err : goal.returns-in_err-step-in-Ok-clause-err
returns-in_err-step-in-Ok-clause-err c =
    let so_far = c.strings.invariant in
    let open_ : symbols_of c.strings.nest ≢ [] = λ e. both_ways _ c.if-is_done.false (c.is_done.ensures.1 e) in
    passed_on _ _ _ c.from_residual.ensures.1
    (step_err c.in_err-step-in-Ok.field-0.0 (symbols_of c.args.nest.now) (symbols_of c.strings.nest) c.args.room
    c.strings.at.room c.args.bytes.now c.strings.at.rest.now c.in-Ok.text.now c.in-Ok.after.room
    c.in-Ok.after.rest.now
    c.in_err-step-in-Ok.ensures.err open_ c.in-Ok.ensures.ok so_far.bytes so_far.fed)

pub returns-in_err-needs_more-in-Err-clause-err : goal.returns-in_err-needs_more-in-Err-clause-err
returns-in_err-needs_more-in-Err-clause-err c =
    let so_far = c.strings.invariant in
    let open_ : symbols_of c.strings.nest ≢ [] = λ e. both_ways _ c.if-is_done.false (c.is_done.ensures.1 e) in
    let found = c.in_err-needs_more-in-Err.ensures.err in
    passed_on _ _ _ c.from_residual-in_err-needs_more-in-Err.ensures.1
    (string_err_of c.in_err-needs_more-in-Err.field-0.0 c.in-Err.e (symbols_of c.args.nest.now)
    (symbols_of c.strings.nest) c.args.room c.strings.at.room c.args.bytes.now c.strings.at.rest.now
    c.in-Err.ensures.err found.0 found.1 open_ so_far.bytes so_far.fed)

pub strings-preserved : goal.strings-preserved
strings-preserved c =
    let so_far = c.strings.invariant in
    record {
      fed =
          λ all fed. next_takes (symbols_of c.strings.nest) (symbols_of c.step.new.self) c.strings.at.room
          c.strings.at.rest.now all c.in-Ok.text.now c.in-Ok.after.room c.in-Ok.after.rest.now
          c.in_ok-step-in-Ok.ensures.ok c.in-Ok.ensures.ok (so_far.fed all fed);
      bytes = rest_bytes c.in-Ok.ensures.ok so_far.bytes;
      suffix = ends_step so_far.suffix c.in-Ok.ensures.ok;
    }

pub strings-smaller : goal.strings-smaller
strings-smaller c = let a = string_shorter c.in-Ok.ensures.ok in omega arith
