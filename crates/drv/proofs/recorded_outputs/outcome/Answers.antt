use Rattle.std.proofs.Common.{sym, ◌∙◌, ap}
use Rattle.std.proofs.lemmas.Result.{err_from_is_err_and}
use Rattle.drv.specs.Outcome.{have_own_names}
use Rattle.drv.specs.View.{views, pairs}
use Rattle.drv.proofs.Answering.{outcome_fails, outcome_shared, outcome_found}
use Rattle.drv.proofs.recorded_outputs.outcome.Goals as goal

pub returns-in_err-outputs : goal.returns-in_err-outputs
returns-in_err-outputs c =
    let p = err_from_is_err_and c.from_residual.result c.from_residual.ensures.1 in
    rw (p.1, p.2) (outcome_fails c.args.dir.now c.args.text.now c.in_err-outputs.field-0.0 c.in_err-outputs.ensures)

pub returns-then-not-branch : goal.returns-then-not-branch
returns-then-not-branch c =
    λ other. outcome_shared c.args.dir.now c.args.text.now (views c.in_ok-outputs.outputs.items) c.in_ok-outputs.ensures
    (ap (λ items. have_own_names (views items)) (sym c.deref.ensures.value) ∙ sym c.in_ok-have_own_names.ensures
    ∙ c.if-not-branch.true)

pub returns : goal.returns
returns c =
    outcome_found c.args.dir.now c.args.text.now (views c.in_ok-outputs.outputs.items)
    (pairs c.in_ok-recorded.field-0.items) c.in_ok-outputs.ensures
    (ap (λ items. have_own_names (views items)) (sym c.deref.ensures.value) ∙ sym c.in_ok-have_own_names.ensures
    ∙ c.if-not-branch.false)
    c.in_ok-recorded.ensures
