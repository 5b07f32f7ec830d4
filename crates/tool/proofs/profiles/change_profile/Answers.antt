use Rattle.std.proofs.Common.{ap, ◌∙◌}
use Rattle.model.specs.Request as request
use Rattle.tool_words.specs.Asked.{on_profile_view, optional_text}
use Rattle.tool.specs.Requests.{change_profile, owner_of}
use Rattle.tool.proofs.Requested.{asked_as, path_is}
use Rattle.tool.proofs.profiles.change_profile.Goals as goal

pub returns-in_ok-set-in-Set : goal.returns-in_ok-set-in-Set
returns-in_ok-set-in-Set c =
    let dir = c.args.dir.now in
    let owner = owner_of c.args.caller.now (optional_text c.args.profile.now.owner) in
    let name = c.args.profile.now.name.now in
    asked_as (change_profile dir owner name (on_profile_view c.args.profile.now.action))
    (request.set_profile owner name c.in_ok-path-in-Set.path) c.in_ok-set-in-Set.field-0
    (ap (λ a. change_profile dir owner name (on_profile_view a)) c.in-Set.is
    ∙ path_is dir c.in-Set.text.now (request.set_profile owner name) c.in_ok-path-in-Set.path
    c.in_ok-path-in-Set.ensures.ok.0 c.in_ok-path-in-Set.ensures.ok.1)
    c.in_ok-set-in-Set.ensures

pub returns-in_ok-rollback-in-Rollback : goal.returns-in_ok-rollback-in-Rollback
returns-in_ok-rollback-in-Rollback c =
    let dir = c.args.dir.now in
    let owner = owner_of c.args.caller.now (optional_text c.args.profile.now.owner) in
    let name = c.args.profile.now.name.now in
    asked_as (change_profile dir owner name (on_profile_view c.args.profile.now.action)) (request.rollback owner name)
    c.in_ok-rollback-in-Rollback.field-0
    (ap (λ a. change_profile dir owner name (on_profile_view a)) c.in-Rollback.is) c.in_ok-rollback-in-Rollback.ensures

pub returns-in_ok-switch-in-Switch : goal.returns-in_ok-switch-in-Switch
returns-in_ok-switch-in-Switch c =
    let dir = c.args.dir.now in
    let owner = owner_of c.args.caller.now (optional_text c.args.profile.now.owner) in
    let name = c.args.profile.now.name.now in
    asked_as (change_profile dir owner name (on_profile_view c.args.profile.now.action))
    (request.switch owner name c.in-Switch.number) c.in_ok-switch-in-Switch.field-0
    (ap (λ a. change_profile dir owner name (on_profile_view a)) c.in-Switch.is) c.in_ok-switch-in-Switch.ensures

pub returns-in_ok-delete-in-Delete : goal.returns-in_ok-delete-in-Delete
returns-in_ok-delete-in-Delete c =
    let dir = c.args.dir.now in
    let owner = owner_of c.args.caller.now (optional_text c.args.profile.now.owner) in
    let name = c.args.profile.now.name.now in
    asked_as (change_profile dir owner name (on_profile_view c.args.profile.now.action))
    (request.delete_generation owner name c.in-Delete.number) c.in_ok-delete-in-Delete.field-0
    (ap (λ a. change_profile dir owner name (on_profile_view a)) c.in-Delete.is) c.in_ok-delete-in-Delete.ensures
