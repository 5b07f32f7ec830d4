use Rattle.std.proofs.Common.{refl, sym, ap, subst, ◌∙◌}
use Rattle.policy.specs.Class.{class_of}
use Rattle.policy.specs.Rules.{first_broken}
use Rattle.policy.specs.Settings.{Settings}
use Rattle.model.specs.Reply.{IsDone, Reply}
use Rattle.model.specs.Verdict.{operation_of}
use Rattle.store_types.specs.View.{request_view, reply_view}
use Rattle.store_promises.specs.Causes.{HasCause}
use Rattle.store_promises.specs.Meets.{reply_to}
use Rattle.store_promises.proofs.Untouched.{others_still}
use Rattle.store.specs.View.{IsStill}
use Rattle.store.proofs.Replied.{answered_of, cause_forbidden, refused_of, step_forbidden, step_met, survives_met}
use Rattle.store.proofs.Spent.{is_no_deletion, same_view, spent_denied, spent_fails}
use Rattle.store.proofs.store.Store.call.Goals as goal

pub act-requires : goal.act-requires
act-requires g c w t =
    let is = c.class-class.ensures ∙ ap (λ (s : Settings). class_of s c.args.caller.now) c.config.ensures in
    (c.in-None.ensures.reported is w t).1

pub returns-in-Some-clause-step : goal.returns-in-Some-clause-step
returns-in-Some-clause-step g c =
    let is = c.class-class.ensures ∙ ap (λ (s : Settings). class_of s c.args.caller.now) c.config.ensures in
    step_forbidden g.S.Store c.args.self.now.settings c.args.caller.now (request_view c.args.request)
    (reply_view c.in-Some.forbidden) c.args.self.now.tables (c.in-Some.ensures.reported is)

pub returns-in-None-clause-step : goal.returns-in-None-clause-step
returns-in-None-clause-step g c =
    let is = c.class-class.ensures ∙ ap (λ (s : Settings). class_of s c.args.caller.now) c.config.ensures in
    step_met g.S.Store c.args.self.now.settings c.args.caller.now (request_view c.args.request) c.act.result
    (reply_view c.reply.result) c.args.self.now.tables c.act.new.self.tables
    (c.in-None.ensures.reported is) c.reply.ensures (c.act.ensures.met c.args.caller.now is)

pub returns-in-Some-clause-cause : goal.returns-in-Some-clause-cause
returns-in-Some-clause-cause g c w t =
    let is = c.class-class.ensures ∙ ap (λ (s : Settings). class_of s c.args.caller.now) c.config.ensures in
    cause_forbidden g.S.Store c.args.self.now.settings c.args.caller.now (request_view c.args.request)
    c.args.self.now.tables (reply_view c.in-Some.forbidden) w (c.in-Some.ensures.reported is w t)

pub returns-in-None-clause-cause : goal.returns-in-None-clause-cause
returns-in-None-clause-cause g c w t =
    let is = c.class-class.ensures ∙ ap (λ (s : Settings). class_of s c.args.caller.now) c.config.ensures in
    subst (λ (x : Reply). HasCause g.S.Store (request_view c.args.request) x c.args.self.now.tables
    c.act.new.self.tables) (sym c.reply.ensures) ((c.act.ensures.met c.args.caller.now is).cause w t)

pub returns-in-Some-clause-spent : goal.returns-in-Some-clause-spent
returns-in-Some-clause-spent g c lost =
    let is = c.class-class.ensures ∙ ap (λ (s : Settings). class_of s c.args.caller.now) c.config.ensures in
    let rule =
    first_broken (class_of c.args.self.now.settings c.args.caller.now) c.args.caller.now
    (operation_of (request_view c.args.request)) in (
      spent_denied rule (reply_view c.in-Some.forbidden)
          (c.in-Some.ensures.ruled is (is_no_deletion c.args.request lost)),
      refl,
    )

pub returns-in-None-clause-spent : goal.returns-in-None-clause-spent
returns-in-None-clause-spent g c lost =
    let is = c.class-class.ensures ∙ ap (λ (s : Settings). class_of s c.args.caller.now) c.config.ensures in
    let rule =
    first_broken (class_of c.args.self.now.settings c.args.caller.now) c.args.caller.now
    (operation_of (request_view c.args.request)) in
    let fails = c.act.ensures.spent lost in (
      c.reply.ensures ∙ ap reply_to fails.0
          ∙ spent_fails rule (c.in-None.ensures.ruled is (is_no_deletion c.args.request lost)),
      same_view c.act.new.self c.args.self.now fails.1 c.act.ensures.settings,
    )

pub returns-in-None-clause-survives : goal.returns-in-None-clause-survives
returns-in-None-clause-survives g c =
    let is = c.class-class.ensures ∙ ap (λ (s : Settings). class_of s c.args.caller.now) c.config.ensures in
    survives_met g.S.Store c.args.self.now.settings c.args.caller.now (request_view c.args.request) c.act.result
    c.args.self.now.tables c.act.new.self.tables (c.in-None.ensures.reported is)
    (c.act.ensures.met c.args.caller.now is)

pub returns-in-None-clause-still : goal.returns-in-None-clause-still
returns-in-None-clause-still g c still =
    let is = c.class-class.ensures ∙ ap (λ (s : Settings). class_of s c.args.caller.now) c.config.ensures in
    let refused = refused_of c.act.result (subst IsStill c.reply.ensures still) in
    same_view c.act.new.self c.args.self.now ((c.act.ensures.met c.args.caller.now is).still refused)
    c.act.ensures.settings

pub returns-in-None-clause-stays_durable : goal.returns-in-None-clause-stays_durable
returns-in-None-clause-stays_durable g c done =
    let is = c.class-class.ensures ∙ ap (λ (s : Settings). class_of s c.args.caller.now) c.config.ensures in
    let answered = answered_of c.act.result (subst IsDone c.reply.ensures done) in
    (c.act.ensures.met c.args.caller.now is).stays_durable answered

pub returns-in-Some-clause-others : goal.returns-in-Some-clause-others
returns-in-Some-clause-others g c = others_still g.S.Store c.args.self.now.tables

pub returns-in-None-clause-others : goal.returns-in-None-clause-others
returns-in-None-clause-others g c =
    let is = c.class-class.ensures ∙ ap (λ (s : Settings). class_of s c.args.caller.now) c.config.ensures in
    (c.act.ensures.met c.args.caller.now is).others
