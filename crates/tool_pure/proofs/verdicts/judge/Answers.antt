use Rattle.std.proofs.Common.{option_map, Ok, Err, ap, ap₂, sym, ◌∙◌}
use Rattle.std.specs.Option.{option_map_or}
use Rattle.policy.specs.Rules.{first_broken}
use Rattle.policy.specs.declared.kinds.Class.{Class}
use Rattle.policy.specs.declared.kinds.Rule.{Rule}
use Rattle.policy.specs.Operation.{plain}
use Rattle.model.specs.declared.refusal.Refusal.TheVariants.{BadCaller}
use Rattle.std.proofs.Common.{Option}
use Rattle.tool_pure.specs.declared.stops.Stop.TheVariants.{Refused}
use Rattle.tool_pure.specs.declared.verdicts.Verdict.{Verdict}
use Rattle.tool_pure.specs.Who.{verdict_on, verdict_by}
use Rattle.tool_pure.proofs.verdicts.judge.Goals as goal

abbrev verdict_with : Class → Option Rule → Verdict
verdict_with class denial = record { class = class; denial = denial }

pub returns-clause-ok : goal.returns-clause-ok
returns-clause-ok c =
    let settings = c.in_ok-config.config in
    let user = option_map (λ s. s.now) c.args.user in
    let group = option_map (λ s. s.now) c.args.group in
    let class_is = c.class-class.ensures in
    let denial_is = c.decide-denial.ensures ∙ ap (λ k. first_broken k c.in_ok-caller.caller plain) class_is in
    ap (λ r. verdict_by r user group) c.in_ok-config.ensures.ok
    ∙ ap (λ o. option_map_or (λ caller. Ok (verdict_on settings caller)) o (Err (Refused BadCaller)))
    c.in_ok-caller.ensures.ok
    ∙ sym (ap Ok (ap₂ verdict_with class_is denial_is))
