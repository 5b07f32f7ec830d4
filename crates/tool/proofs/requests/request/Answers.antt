use Rattle.std.proofs.Common.{None, Some, ap, refl, Ok, ◌∙◌}
use Rattle.clap.specs.Walk.{texts}
use Rattle.report.specs.Outputs.{change_of}
use Rattle.model.specs.Request as request
use Rattle.store_types.specs.declared.requests.Request.TheVariants.{Collect, List, Dead, Live, ListRoots, Report}
use Rattle.tool_words.specs.Asked.{asked_view, on_profile_view, on_session_view, optional_text}
use Rattle.tool.specs.Requests.{asks, import_body, most_read, runtime_body, change_profile, change_session, drop_root}
use Rattle.tool.specs.Requests.{on_path, on_paths, owner_of, set_root}
use Rattle.tool.proofs.Reading.{within_same}
use Rattle.tool.proofs.Requested.{arm, plain_arm, unread_arm, unroot_asks}
use Rattle.tool.proofs.requests.request.Goals as goal

pub returns-in-List-clause-asked : goal.returns-in-List-clause-asked
returns-in-List-clause-asked g c =
    plain_arm (asked_view c.args.task.now) request.list c.args.dir.now c.args.caller.now
    (change_of g.R.Read.remaining c.args.input.now c.args.input.now) List
    (ap (λ t. asks (asked_view t)) c.in-List.is) refl

pub returns-in-Live-clause-asked : goal.returns-in-Live-clause-asked
returns-in-Live-clause-asked g c =
    plain_arm (asked_view c.args.task.now) request.list_live c.args.dir.now c.args.caller.now
    (change_of g.R.Read.remaining c.args.input.now c.args.input.now) Live
    (ap (λ t. asks (asked_view t)) c.in-Live.is) refl

pub returns-in-Dead-clause-asked : goal.returns-in-Dead-clause-asked
returns-in-Dead-clause-asked g c =
    plain_arm (asked_view c.args.task.now) request.list_dead c.args.dir.now c.args.caller.now
    (change_of g.R.Read.remaining c.args.input.now c.args.input.now) Dead
    (ap (λ t. asks (asked_view t)) c.in-Dead.is) refl

pub returns-in-Roots-clause-asked : goal.returns-in-Roots-clause-asked
returns-in-Roots-clause-asked g c =
    plain_arm (asked_view c.args.task.now) request.list_roots c.args.dir.now c.args.caller.now
    (change_of g.R.Read.remaining c.args.input.now c.args.input.now) ListRoots
    (ap (λ t. asks (asked_view t)) c.in-Roots.is) refl

pub returns-in-Report-clause-asked : goal.returns-in-Report-clause-asked
returns-in-Report-clause-asked g c =
    plain_arm (asked_view c.args.task.now) request.report c.args.dir.now c.args.caller.now
    (change_of g.R.Read.remaining c.args.input.now c.args.input.now) Report
    (ap (λ t. asks (asked_view t)) c.in-Report.is) refl

pub returns-in-Delete-clause-asked : goal.returns-in-Delete-clause-asked
returns-in-Delete-clause-asked g c =
    unread_arm (asked_view c.args.task.now)
    (λ dir caller. on_paths dir (texts c.in-Delete.deletion.paths.items)
    (λ named. request.delete named c.in-Delete.deletion.ignore_liveness)) c.args.dir.now c.args.caller.now
    (change_of g.R.Read.remaining c.args.input.now c.args.input.now) c.delete_paths.result
    (ap (λ t. asks (asked_view t)) c.in-Delete.is) c.delete_paths.ensures

pub returns-in-Info-clause-asked : goal.returns-in-Info-clause-asked
returns-in-Info-clause-asked g c =
    unread_arm (asked_view c.args.task.now) (λ dir caller. on_path dir c.in-Info.text.now request.info) c.args.dir.now
    c.args.caller.now (change_of g.R.Read.remaining c.args.input.now c.args.input.now) c.info.result
    (ap (λ t. asks (asked_view t)) c.in-Info.is) c.info.ensures

pub returns-in-Why-clause-asked : goal.returns-in-Why-clause-asked
returns-in-Why-clause-asked g c =
    unread_arm (asked_view c.args.task.now) (λ dir caller. on_path dir c.in-Why.text.now request.list_roots_of)
    c.args.dir.now c.args.caller.now (change_of g.R.Read.remaining c.args.input.now c.args.input.now) c.why.result
    (ap (λ t. asks (asked_view t)) c.in-Why.is) c.why.ensures

pub returns-in-CatNar-clause-asked : goal.returns-in-CatNar-clause-asked
returns-in-CatNar-clause-asked g c =
    unread_arm (asked_view c.args.task.now) (λ dir caller. on_path dir c.in-CatNar.text.now request.nar) c.args.dir.now
    c.args.caller.now (change_of g.R.Read.remaining c.args.input.now c.args.input.now)
    c.cat_nar.result (ap (λ t. asks (asked_view t)) c.in-CatNar.is) c.cat_nar.ensures

pub returns-in-Root-clause-asked : goal.returns-in-Root-clause-asked
returns-in-Root-clause-asked g c =
    unread_arm (asked_view c.args.task.now)
    (λ dir caller. on_path dir c.in-Root.root.path.now
    (set_root c.in-Root.root.kind caller c.in-Root.root.name.now)) c.args.dir.now c.args.caller.now
    (change_of g.R.Read.remaining c.args.input.now c.args.input.now) c.set_root.result
    (ap (λ t. asks (asked_view t)) c.in-Root.is) c.set_root.ensures

pub returns-in-Unroot-clause-asked : goal.returns-in-Unroot-clause-asked
returns-in-Unroot-clause-asked g c =
    unread_arm (asked_view c.args.task.now)
    (λ dir caller. Ok (drop_root c.in-Unroot.root.root caller c.in-Unroot.root.name.now)) c.args.dir.now
    c.args.caller.now (change_of g.R.Read.remaining c.args.input.now c.args.input.now) c.drop_root.result
    (ap (λ t. asks (asked_view t)) c.in-Unroot.is ∙ unroot_asks c.in-Unroot.root.root c.in-Unroot.root.name.now)
    c.drop_root.ensures

pub returns-in-Profile-clause-asked : goal.returns-in-Profile-clause-asked
returns-in-Profile-clause-asked g c =
    unread_arm (asked_view c.args.task.now)
    (λ dir caller. change_profile dir (owner_of caller (optional_text c.in-Profile.profile.owner))
    c.in-Profile.profile.name.now (on_profile_view c.in-Profile.profile.action)) c.args.dir.now c.args.caller.now
    (change_of g.R.Read.remaining c.args.input.now c.args.input.now) c.change_profile.result
    (ap (λ t. asks (asked_view t)) c.in-Profile.is) c.change_profile.ensures

pub returns-in-Temp-clause-asked : goal.returns-in-Temp-clause-asked
returns-in-Temp-clause-asked g c =
    unread_arm (asked_view c.args.task.now)
    (λ dir caller. change_session dir (owner_of caller (optional_text c.in-Temp.session.owner))
    c.in-Temp.session.session (on_session_view c.in-Temp.session.action)) c.args.dir.now c.args.caller.now
    (change_of g.R.Read.remaining c.args.input.now c.args.input.now) c.change_session.result
    (ap (λ t. asks (asked_view t)) c.in-Temp.is) c.change_session.ensures

pub returns-in-Gc-clause-asked : goal.returns-in-Gc-clause-asked
returns-in-Gc-clause-asked g c =
    plain_arm (asked_view c.args.task.now) (request.collect c.in-Gc.gc.ignore_liveness c.in-Gc.gc.max_freed)
    c.args.dir.now c.args.caller.now (change_of g.R.Read.remaining c.args.input.now c.args.input.now)
    (Collect c.in-Gc.gc.ignore_liveness c.in-Gc.gc.max_freed) (ap (λ t. asks (asked_view t)) c.in-Gc.is) refl

pub returns-in-AddText-clause-asked : goal.returns-in-AddText-clause-asked
returns-in-AddText-clause-asked g c = λ ask is.
    arm (asked_view c.args.task.now) _ c.args.dir.now c.args.caller.now
    (change_of g.R.Read.remaining c.args.input.now c.add_text.new.input) c.add_text.result
    (ap (λ t. asks (asked_view t)) c.in-AddText.is)
    c.add_text.ensures.asked ask is

pub returns-in-AddText-clause-reads : goal.returns-in-AddText-clause-reads
returns-in-AddText-clause-reads g c =
    within_same (most_read (asked_view c.args.task.now)) (Some 16777105) (g.R.Read.remaining c.args.input.now)
    (g.R.Read.remaining c.add_text.new.input) (ap (λ t. most_read (asked_view t)) c.in-AddText.is)
    c.add_text.ensures.reads

pub returns-in-AddSource-clause-reads : goal.returns-in-AddSource-clause-reads
returns-in-AddSource-clause-reads g c =
    within_same (most_read (asked_view c.args.task.now)) (Some 16777224) (g.R.Read.remaining c.args.input.now)
    (g.R.Read.remaining c.add_source.new.input) (ap (λ t. most_read (asked_view t)) c.in-AddSource.is)
    c.add_source.ensures.reads

pub returns-in-AddSource-clause-asked : goal.returns-in-AddSource-clause-asked
returns-in-AddSource-clause-asked g c = λ ask is.
    arm (asked_view c.args.task.now) _ c.args.dir.now c.args.caller.now
    (change_of g.R.Read.remaining c.args.input.now c.add_source.new.input) c.add_source.result
    (ap (λ t. asks (asked_view t)) c.in-AddSource.is)
    c.add_source.ensures.asked ask is

pub returns-in-Import-clause-asked : goal.returns-in-Import-clause-asked
returns-in-Import-clause-asked g c = λ ask is.
    arm (asked_view c.args.task.now) import_body c.args.dir.now c.args.caller.now
    (change_of g.R.Read.remaining c.args.input.now c.import.new.input) c.import.result
    (ap (λ t. asks (asked_view t)) c.in-Import.is)
    c.import.ensures ask is

pub returns-in-Import-clause-reads : goal.returns-in-Import-clause-reads
returns-in-Import-clause-reads g c =
    within_same (most_read (asked_view c.args.task.now)) None (g.R.Read.remaining c.args.input.now)
    (g.R.Read.remaining c.import.new.input) (ap (λ t. most_read (asked_view t)) c.in-Import.is) tt

pub returns-in-Runtime-clause-asked : goal.returns-in-Runtime-clause-asked
returns-in-Runtime-clause-asked g c = λ ask is.
    arm (asked_view c.args.task.now) runtime_body c.args.dir.now c.args.caller.now
    (change_of g.R.Read.remaining c.args.input.now c.replace_runtime.new.input) c.replace_runtime.result
    (ap (λ t. asks (asked_view t)) c.in-Runtime.is)
    c.replace_runtime.ensures ask is

pub returns-in-Runtime-clause-reads : goal.returns-in-Runtime-clause-reads
returns-in-Runtime-clause-reads g c =
    within_same (most_read (asked_view c.args.task.now)) None (g.R.Read.remaining c.args.input.now)
    (g.R.Read.remaining c.replace_runtime.new.input) (ap (λ t. most_read (asked_view t)) c.in-Runtime.is) tt
