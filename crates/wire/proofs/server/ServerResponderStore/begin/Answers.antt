use Rattle.std.proofs.Common.{◌≡◌, sym, subst}
use Rattle.wire_server.specs.Responses.{replied}
use Rattle.wire.specs.Courses.{refuses, admits, admission_of}
use Rattle.wire.proofs.Asked.{refused_by_head}
use Rattle.wire.proofs.server.ServerResponderStore.begin.Goals as goal

pub returns-in-Accepted : goal.returns-in-Accepted
returns-in-Accepted g c = λ h is.
    let endpoint = c.in-Accepted.endpoint in
    let head = rw c.in-Accepted.is at c.in_ok-endpoint.ensures.decides in
    let has = rw c.in-Accepted.is at c.in_ok-endpoint.ensures.parameters in
    let it = subst (λ s. admits endpoint.caller endpoint.kind ≡ admission_of s h) c.config.ensures (head h is) in
    ((sym it, has h is), c.new-body.ensures.empty)

pub returns-in-Refused : goal.returns-in-Refused
returns-in-Refused g c = λ h is.
    let head = rw c.in-Refused.is at c.in_ok-endpoint.ensures.decides in
    let it = subst (λ s. refuses (replied c.in-Refused.response) ≡ admission_of s h) c.config.ensures (head h is) in
    refused_by_head g.S.Store c.args.store.now h (replied c.in-Refused.response) it
