use Rattle.std.proofs.Common.{ap, ◌∙◌}
use Rattle.model.specs.Request as request
use Rattle.tool_words.specs.Asked.{on_session_view, optional_text}
use Rattle.tool.specs.Requests.{change_session, owner_of}
use Rattle.tool.proofs.Requested.{asked_as, path_is}
use Rattle.tool.proofs.temporary.change_session.Goals as goal

pub returns-in_ok-add-in-Add : goal.returns-in_ok-add-in-Add
returns-in_ok-add-in-Add c =
    let dir = c.args.dir.now in
    let owner = owner_of c.args.caller.now (optional_text c.args.session.now.owner) in
    let n = c.args.session.now.session in
    asked_as (change_session dir owner n (on_session_view c.args.session.now.action))
    (request.add_temp owner n c.in_ok-path-in-Add.path) c.in_ok-add-in-Add.field-0
    (ap (λ a. change_session dir owner n (on_session_view a)) c.in-Add.is
    ∙ path_is dir c.in-Add.text.now (request.add_temp owner n) c.in_ok-path-in-Add.path c.in_ok-path-in-Add.ensures.ok.0
    c.in_ok-path-in-Add.ensures.ok.1)
    c.in_ok-add-in-Add.ensures

pub returns-in_ok-end-in-End : goal.returns-in_ok-end-in-End
returns-in_ok-end-in-End c =
    let dir = c.args.dir.now in
    let owner = owner_of c.args.caller.now (optional_text c.args.session.now.owner) in
    let n = c.args.session.now.session in
    asked_as (change_session dir owner n (on_session_view c.args.session.now.action)) (request.end_session owner n)
    c.in_ok-end-in-End.field-0
    (ap (λ a. change_session dir owner n (on_session_view a)) c.in-End.is) c.in_ok-end-in-End.ensures
