use Rattle.std.proofs.Common.{◌≡◌, Some, None, IfOk, subst}
use Rattle.policy.specs.Operation.{plain}
use Rattle.policy.specs.Rules.{first_broken}
use Rattle.wire.specs.Courses.{refuses, denied, by_rule, admission_view}
use Rattle.wire.proofs.admission.on_caller.Goals as goal

pub returns-in-Some-clause-decides : goal.returns-in-Some-clause-decides
returns-in-Some-clause-decides c =
    let broken =
    subst (λ k. Some c.in-Some.rule ≡ first_broken k c.args.caller plain) c.class.ensures c.in-Some.ensures in
    let here =
    subst (λ d. IfOk c.deny.result (λ it. admission_view it ≡ refuses (denied d c.in-Some.rule)))
    c.store_dir.ensures c.deny.ensures.decides in
    subst (λ o. IfOk c.deny.result
    (λ it. admission_view it ≡ by_rule c.args.config.now.store_dir c.args.caller c.args.method.now
    c.args.target.now o)) broken here

pub returns-in-None-clause-decides : goal.returns-in-None-clause-decides
returns-in-None-clause-decides c =
    let kept = subst (λ k. None ≡ first_broken k c.args.caller plain) c.class.ensures c.in-None.ensures in
    subst (λ o. IfOk c.on_route.result
    (λ it. admission_view it ≡ by_rule c.args.config.now.store_dir c.args.caller c.args.method.now
    c.args.target.now o)) kept c.on_route.ensures.decides
