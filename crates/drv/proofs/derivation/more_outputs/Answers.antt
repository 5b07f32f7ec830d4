use Rattle.std.proofs.Common.{◌∙◌, ap, sym}
use Rattle.std.proofs.lemmas.List.{map_push}
use Rattle.std.proofs.lemmas.Result.{err_from_is_err_and}
use Rattle.drv.specs.Derivation.{output, IsOutput}
use Rattle.drv.specs.Reading.{output_at}
use Rattle.drv.specs.View.{view, views}
use Rattle.drv.proofs.Answering.{fails_then}
use Rattle.drv.proofs.Loops.{items_closed, items_stop, items_fail, items_go_on, more_shrinks}
use Rattle.drv.proofs.OneOutput.{outputs_read, outputs_open}
use Rattle.drv.proofs.derivation.more_outputs.Goals as goal

pub returns-in-Some : goal.returns-in-Some
returns-in-Some c =
    items_closed (output_at c.args.dir.now) (views c.loop-end.outputs.items) c.loop-end.rest.now c.in-Some.end.now _
    c.in-Some.ensures c.loop-end.invariant

pub returns-in_default-after : goal.returns-in_default-after
returns-in_default-after c =
    items_stop (output_at c.args.dir.now) (views c.loop-end.outputs.items) c.loop-end.rest.now _ c.in_default.ensures
    c.in_default-after.ensures c.loop-end.invariant

pub returns-in_err-output : goal.returns-in_err-output
returns-in_err-output c =
    let p = err_from_is_err_and c.from_residual.result c.from_residual.ensures.1 in
    rw (p.1, p.2) (fails_then c.in_err-output.field-0.0 (output_at c.args.dir.now c.in-Some-after.item.now) _
    c.in_err-output.ensures
    (items_fail (output_at c.args.dir.now) (views c.loop-end.outputs.items) c.loop-end.rest.now c.in-Some-after.item.now
    _ c.in_default.ensures c.in-Some-after.ensures c.loop-end.invariant))

pub loop-end-preserved : goal.loop-end-preserved
loop-end-preserved c =
    items_go_on (output_at c.args.dir.now) output (IsOutput c.args.dir.now) (outputs_read c.args.dir.now) outputs_open
    (views c.loop-end.outputs.items) (views c.push.new.self.items) c.loop-end.rest.now c.in-Some-after.item.now
    (view c.in_ok-output.output) c.in_ok-output.next.now _
    c.in_default.ensures c.in-Some-after.ensures c.in_ok-output.ensures
    (ap views c.in_ok-push.ensures.items ∙ map_push view c.loop-end.outputs.items c.in_ok-output.output)
    c.loop-end.invariant

pub loop-end-smaller : goal.loop-end-smaller
loop-end-smaller c =
    more_shrinks (output_at c.args.dir.now) output (IsOutput c.args.dir.now) (outputs_read c.args.dir.now) outputs_open
    c.loop-end.rest.now c.in-Some-after.item.now (view c.in_ok-output.output) c.in_ok-output.next.now
    (sym c.in-Some-after.ensures) c.in_ok-output.ensures
