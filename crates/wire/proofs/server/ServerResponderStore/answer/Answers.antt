use Rattle.std.proofs.Common.{◌≡◌, IfOk, refl, inl, subst, ap, ◌∙◌}
use Rattle.store_types.specs.View.{request_view, reply_view}
use Rattle.store.specs.Calls.{Calls}
use Rattle.wire_server.specs.Responses.{replied}
use Rattle.wire.specs.Replies.{response_to}
use Rattle.wire.specs.Courses.{calls}
use Rattle.wire.proofs.Asked.{admitted, asked, refused_by}
use Rattle.wire.proofs.Spent.{made_calls}
use Rattle.wire.proofs.server.ServerResponderStore.answer.Goals as goal

pub returns-in-Ok : goal.returns-in-Ok
returns-in-Ok g c = λ h all is admits kept.
    let caller = c.args.endpoint.caller in
    let dir = c.store_dir-dir.ensures ∙ ap (λ v. v.store_dir) c.config.ensures in
    let made = c.in-Ok.ensures h.target all admits.1 kept in
    let q = made.0 in
    let takes =
    admitted c.args.store.now.settings h caller c.args.endpoint.kind c.store_dir-dir.result.now all (calls caller q)
    admits.0 dir (inl (q, made.1, refl)) in
    let step : Calls g.S.Store caller (request_view c.in-Ok.request) (reply_view c.call-reply.result) c.args.store.now
    c.call-reply.new.self = record {
      settings = c.call-reply.ensures.settings;
      step = c.call-reply.ensures.step;
      cause = c.call-reply.ensures.cause;
      others = c.call-reply.ensures.others;
      still = c.call-reply.ensures.still;
      stays_durable = c.call-reply.ensures.stays_durable;
      survives = c.call-reply.ensures.survives;
    } in
    let called =
    made_calls g.S.Store c.args.store.now caller q c.in-Ok.request (reply_view c.call-reply.result)
    c.call-reply.new.self made.2 c.call-reply.ensures.spent step in
    let after = c.store_dir.ensures ∙ ap (λ v. v.store_dir) (c.config-in-Ok.ensures ∙ c.call-reply.ensures.settings) in
    let said =
    subst (λ d. IfOk c.respond.result (λ x. replied x ≡ response_to d (reply_view c.call-reply.result))) after
    c.respond.ensures in
    asked g.S.Store c.args.store.now h all c.call-reply.new.self caller q (reply_view c.call-reply.result)
    c.respond.result takes called said

pub returns : goal.returns
returns g c = λ h all is admits kept.
    let dir = c.store_dir-dir.ensures ∙ ap (λ v. v.store_dir) c.config.ensures in
    refused_by g.S.Store c.args.store.now h all c.args.endpoint.caller c.args.endpoint.kind c.store_dir-dir.result.now
    c.in-Err.fault c.refuse.result admits.0 dir
    (c.in-Err.ensures h.target all admits.1 kept) c.refuse.ensures
