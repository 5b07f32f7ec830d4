use Rattle.std.proofs.Common.{◌≡◌, Some, None, Err, IfOk, refl, ap, subst, ◌∙◌}
use Rattle.policy.specs.declared.error.CallerError.TheVariants.{BadCaller}
use Rattle.httparse.specs.Spans.{span_bytes}
use Rattle.wire.specs.Courses.{by_caller, admission_of, admission_view, HasParameters}
use Rattle.wire.proofs.Held.{admits_held, in_buffer}
use Rattle.wire.proofs.Along.{mapped}
use Rattle.wire.proofs.admission.admit.Goals as goal

pub returns-in-Ok-clause-decides : goal.returns-in-Ok-clause-decides
returns-in-Ok-clause-decides c = λ h is.
    let named =
    in_buffer _ c.args.held.now _ c.args.head.now _ c.new.ensures.buf c.new.ensures.head c.in-Ok.ensures.ok in
    mapped (λ it. admission_view it
    ≡ by_caller c.args.config.now c.method_of-method.result.now c.target_of-target.result.now
    (Some c.in-Ok.caller))
    (λ it. admission_view it ≡ admission_of c.args.config.now h) c.on_caller.result
    (λ it by. admits_held c.args.config.now c.args.held.now c.args.head.now h (admission_view it) is
    c.method_of-method.result.now c.target_of-target.result.now (Some c.in-Ok.caller)
    c.method_of-method.ensures c.target_of-target.ensures named by) c.on_caller.ensures.decides

pub returns-in-Ok-clause-parameters : goal.returns-in-Ok-clause-parameters
returns-in-Ok-clause-parameters c =
    λ h is. subst (λ target. IfOk c.on_caller.result (HasParameters target))
    (c.target_of-target.ensures ∙ is.places.path) c.on_caller.ensures.parameters

pub returns-in-Err-BadCaller-clause-decides : goal.returns-in-Err-BadCaller-clause-decides
returns-in-Err-BadCaller-clause-decides c = λ h is.
    let bad : c.read_caller.result ≡ Err BadCaller =
    c.in-Err-BadCaller.is ∙ ap (λ e. Err e) c.in-Err-BadCaller.field-0-is in
    let none =
    in_buffer _ c.args.held.now _ c.args.head.now _ c.new.ensures.buf c.new.ensures.head
    (c.read_caller.ensures.bad bad) in
    mapped (λ it. admission_view it
    ≡ by_caller c.args.config.now (span_bytes c.args.held.now c.args.head.now.spans.method)
    (span_bytes c.args.held.now c.args.head.now.spans.path) None)
    (λ it. admission_view it ≡ admission_of c.args.config.now h) c.refuse.result
    (λ it by. admits_held c.args.config.now c.args.held.now c.args.head.now h (admission_view it) is
    (span_bytes c.args.held.now c.args.head.now.spans.method) (span_bytes c.args.held.now c.args.head.now.spans.path)
    None
    refl refl none by) c.refuse.ensures.decides
