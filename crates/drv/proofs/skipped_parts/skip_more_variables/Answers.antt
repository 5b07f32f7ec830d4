use Rattle.std.proofs.Common.{◌∙◌, ap}
use Rattle.std.specs.Option.{option_copied}
use Rattle.drv.specs.Derivation.{variable}
use Rattle.drv.specs.Reading.{variable_end}
use Rattle.drv.proofs.Loops.{left_closed, left_stops, left_fails, left_goes_on, left_shrinks}
use Rattle.drv.proofs.Parts.{variable_item}
use Rattle.drv.proofs.skipped_parts.skip_more_variables.Goals as goal

pub returns-in-Some : goal.returns-in-Some
returns-in-Some c =
    left_closed variable_end c.loop-end.rest.now c.in-Some.end.now c.in-Some.ensures ∙ c.loop-end.invariant

pub returns-in_err-item : goal.returns-in_err-item
returns-in_err-item c =
    ap option_copied c.from_residual.ensures
    ∙ left_stops variable_end c.loop-end.rest.now c.in_default.ensures c.in_err-item.ensures ∙ c.loop-end.invariant

pub returns-in_err-rest : goal.returns-in_err-rest
returns-in_err-rest c =
    ap option_copied c.from_residual-in_err-rest.ensures
    ∙ left_fails variable_end c.loop-end.rest.now c.in_ok-item.item.now c.in_default.ensures c.in_ok-item.ensures
    c.in_err-rest.ensures
    ∙ c.loop-end.invariant

pub loop-end-preserved : goal.loop-end-preserved
loop-end-preserved c =
    left_goes_on variable_end variable variable_item c.loop-end.rest.now c.in_ok-item.item.now c.in_ok-rest.rest.now
    c.in_default.ensures c.in_ok-item.ensures c.in_ok-rest.ensures
    ∙ c.loop-end.invariant

pub loop-end-smaller : goal.loop-end-smaller
loop-end-smaller c =
    left_shrinks variable_end variable variable_item c.loop-end.rest.now c.in_ok-item.item.now c.in_ok-rest.rest.now
    c.in_ok-item.ensures c.in_ok-rest.ensures
