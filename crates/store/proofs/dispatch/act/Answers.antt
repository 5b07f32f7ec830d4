use Rattle.std.proofs.Common.{refl, sym, ap, subst, ◌∙◌}
use Rattle.std.specs.Prelude.{None, []}
use Rattle.std.specs.List.{list_any}
use Rattle.policy.specs.Caller.{Caller, caller_of}
use Rattle.model.specs.Liveness.{lives}
use Rattle.model.specs.Verdict.{named_in}
use Rattle.store_types.specs.declared.requests.Request.{Request}
use Rattle.store_types.specs.Spent.{is_spent}
use Rattle.store_types.specs.View.{request_view}
use Rattle.store_promises.specs.Meets.{IsMet}
use Rattle.store_reach.proofs.Collected.{deleted_sound}
use Rattle.store_promises.proofs.Untouched.{met_by_reading}
use Rattle.store.proofs.Spent.{is_lost, is_whole}
use Rattle.store.proofs.dispatch.act.Goals as goal

pub returns-in-AddText-clause-met : goal.returns-in-AddText-clause-met
returns-in-AddText-clause-met g c caller is =
    subst (λ (q : Request). IsMet g.S.Store c.args.config.now caller (request_view q) c.add_text.result
    c.args.tables.now c.add_text.new.tables) (sym c.in-AddText.is)
    (c.add_text.ensures caller)

pub returns-in-Info-clause-met : goal.returns-in-Info-clause-met
returns-in-Info-clause-met g c caller is =
    subst (λ (q : Request). IsMet g.S.Store c.args.config.now caller (request_view q) c.info.result
    c.args.tables.now c.args.tables.now) (sym c.in-Info.is)
    (met_by_reading g.S.Store c.args.config.now caller _ c.info.result c.args.tables.now c.outline.result.now
    c.outline.ensures (c.info.ensures c.args.config.now caller))

pub returns-in-Nar-clause-met : goal.returns-in-Nar-clause-met
returns-in-Nar-clause-met g c caller is =
    subst (λ (q : Request). IsMet g.S.Store c.args.config.now caller (request_view q) c.archive.result
    c.args.tables.now c.archive.new.tables) (sym c.in-Nar.is)
    (c.archive.ensures c.args.config.now caller)

pub returns-in-Ls-clause-met : goal.returns-in-Ls-clause-met
returns-in-Ls-clause-met g c caller is =
    subst (λ (q : Request). IsMet g.S.Store c.args.config.now caller (request_view q) c.listing.result
    c.args.tables.now c.listing.new.tables) (sym c.in-Ls.is)
    (c.listing.ensures c.args.config.now caller)

pub returns-in-List-clause-met : goal.returns-in-List-clause-met
returns-in-List-clause-met g c caller is =
    subst (λ (q : Request). IsMet g.S.Store c.args.config.now caller (request_view q) c.list.result
    c.args.tables.now c.args.tables.now) (sym c.in-List.is)
    (met_by_reading g.S.Store c.args.config.now caller _ c.list.result c.args.tables.now
    c.outline-in-List.result.now c.outline-in-List.ensures (c.list.ensures c.args.config.now caller))

pub returns-in-Live-clause-met : goal.returns-in-Live-clause-met
returns-in-Live-clause-met g c caller is =
    subst (λ (q : Request). IsMet g.S.Store c.args.config.now caller (request_view q) c.list_live.result
    c.args.tables.now c.args.tables.now) (sym c.in-Live.is)
    (met_by_reading g.S.Store c.args.config.now caller _ c.list_live.result c.args.tables.now
    c.outline-in-Live.result.now c.outline-in-Live.ensures (c.list_live.ensures caller))

pub returns-in-Dead-clause-met : goal.returns-in-Dead-clause-met
returns-in-Dead-clause-met g c caller is =
    subst (λ (q : Request). IsMet g.S.Store c.args.config.now caller (request_view q) c.list_dead.result
    c.args.tables.now c.args.tables.now) (sym c.in-Dead.is)
    (met_by_reading g.S.Store c.args.config.now caller _ c.list_dead.result c.args.tables.now
    c.outline-in-Dead.result.now c.outline-in-Dead.ensures (c.list_dead.ensures caller))

pub returns-in-ListRoots-clause-met : goal.returns-in-ListRoots-clause-met
returns-in-ListRoots-clause-met g c caller is =
    subst (λ (q : Request). IsMet g.S.Store c.args.config.now caller (request_view q) c.list_roots.result
    c.args.tables.now c.args.tables.now) (sym c.in-ListRoots.is)
    (met_by_reading g.S.Store c.args.config.now caller _ c.list_roots.result c.args.tables.now
    c.outline-in-ListRoots.result.now c.outline-in-ListRoots.ensures (c.list_roots.ensures c.args.config.now caller is))

pub returns-in-RootsOf-clause-met : goal.returns-in-RootsOf-clause-met
returns-in-RootsOf-clause-met g c caller is =
    subst (λ (q : Request). IsMet g.S.Store c.args.config.now caller (request_view q) c.list_roots_of.result
    c.args.tables.now c.args.tables.now) (sym c.in-RootsOf.is)
    (met_by_reading g.S.Store c.args.config.now caller _ c.list_roots_of.result c.args.tables.now
    c.outline-in-RootsOf.result.now c.outline-in-RootsOf.ensures (c.list_roots_of.ensures caller is))

pub returns-in-Report-clause-met : goal.returns-in-Report-clause-met
returns-in-Report-clause-met g c caller is =
    subst (λ (q : Request). IsMet g.S.Store c.args.config.now caller (request_view q) c.report.result
    c.args.tables.now c.args.tables.now) (sym c.in-Report.is)
    (met_by_reading g.S.Store c.args.config.now caller _ c.report.result c.args.tables.now
    c.outline-in-Report.result.now c.outline-in-Report.ensures (c.report.ensures caller))

pub returns-in-SetPermanent-clause-met : goal.returns-in-SetPermanent-clause-met
returns-in-SetPermanent-clause-met g c caller is =
    subst (λ (q : Request). IsMet g.S.Store c.args.config.now caller (request_view q) c.set_permanent.result
    c.args.tables.now c.set_permanent.new.tables) (sym c.in-SetPermanent.is)
    (c.set_permanent.ensures c.args.config.now caller)

pub returns-in-DropPermanent-clause-met : goal.returns-in-DropPermanent-clause-met
returns-in-DropPermanent-clause-met g c caller is =
    subst (λ (q : Request). IsMet g.S.Store c.args.config.now caller (request_view q) c.drop_permanent.result
    c.args.tables.now c.drop_permanent.new.tables) (sym c.in-DropPermanent.is)
    (c.drop_permanent.ensures c.args.config.now caller)

pub returns-in-SetUserRoot-clause-met : goal.returns-in-SetUserRoot-clause-met
returns-in-SetUserRoot-clause-met g c caller is =
    subst (λ (q : Request). IsMet g.S.Store c.args.config.now caller (request_view q) c.set_user_root.result
    c.args.tables.now c.set_user_root.new.tables) (sym c.in-SetUserRoot.is)
    (c.set_user_root.ensures c.args.config.now caller)

pub returns-in-DropUserRoot-clause-met : goal.returns-in-DropUserRoot-clause-met
returns-in-DropUserRoot-clause-met g c caller is =
    subst (λ (q : Request). IsMet g.S.Store c.args.config.now caller (request_view q) c.drop_user_root.result
    c.args.tables.now c.drop_user_root.new.tables) (sym c.in-DropUserRoot.is)
    (c.drop_user_root.ensures c.args.config.now caller)

pub returns-in-Rollback-clause-met : goal.returns-in-Rollback-clause-met
returns-in-Rollback-clause-met g c caller is =
    subst (λ (q : Request). IsMet g.S.Store c.args.config.now caller (request_view q) c.rollback.result
    c.args.tables.now c.rollback.new.tables) (sym c.in-Rollback.is)
    (c.rollback.ensures c.args.config.now caller)

pub returns-in-Switch-clause-met : goal.returns-in-Switch-clause-met
returns-in-Switch-clause-met g c caller is =
    subst (λ (q : Request). IsMet g.S.Store c.args.config.now caller (request_view q) c.switch.result
    c.args.tables.now c.switch.new.tables) (sym c.in-Switch.is)
    (c.switch.ensures c.args.config.now caller)

pub returns-in-DeleteGeneration-clause-met : goal.returns-in-DeleteGeneration-clause-met
returns-in-DeleteGeneration-clause-met g c caller is =
    subst (λ (q : Request). IsMet g.S.Store c.args.config.now caller (request_view q)
    c.delete_generation.result c.args.tables.now c.delete_generation.new.tables) (sym c.in-DeleteGeneration.is)
    (c.delete_generation.ensures c.args.config.now caller)

pub returns-in-SetProfile-clause-met : goal.returns-in-SetProfile-clause-met
returns-in-SetProfile-clause-met g c caller is =
    subst (λ (q : Request). IsMet g.S.Store c.args.config.now caller (request_view q) c.set_profile.result
    c.args.tables.now c.set_profile.new.tables) (sym c.in-SetProfile.is)
    (c.set_profile.ensures c.args.config.now caller)

pub returns-in-AddTemp-clause-met : goal.returns-in-AddTemp-clause-met
returns-in-AddTemp-clause-met g c caller is =
    subst (λ (q : Request). IsMet g.S.Store c.args.config.now caller (request_view q) c.add_temp.result
    c.args.tables.now c.add_temp.new.tables) (sym c.in-AddTemp.is)
    (c.add_temp.ensures c.args.config.now caller)

pub returns-in-EndSession-clause-met : goal.returns-in-EndSession-clause-met
returns-in-EndSession-clause-met g c caller is =
    subst (λ (q : Request). IsMet g.S.Store c.args.config.now caller (request_view q) c.end_session.result
    c.args.tables.now c.end_session.new.tables) (sym c.in-EndSession.is)
    (c.end_session.ensures c.args.config.now caller)

pub returns-in-ReplaceRuntime-clause-met : goal.returns-in-ReplaceRuntime-clause-met
returns-in-ReplaceRuntime-clause-met g c caller is =
    subst (λ (q : Request). IsMet g.S.Store c.args.config.now caller (request_view q)
    c.replace_runtime.result c.args.tables.now c.replace_runtime.new.tables) (sym c.in-ReplaceRuntime.is)
    (c.replace_runtime.ensures c.args.config.now caller)

pub returns-in-AddSource-clause-met : goal.returns-in-AddSource-clause-met
returns-in-AddSource-clause-met g c caller is =
    subst (λ (q : Request). IsMet g.S.Store c.args.config.now caller (request_view q) c.add_source.result
    c.args.tables.now c.add_source.new.tables) (sym c.in-AddSource.is)
    (c.add_source.ensures.met caller)

pub returns-in-Import-clause-met : goal.returns-in-Import-clause-met
returns-in-Import-clause-met g c caller is =
    subst (λ (q : Request). IsMet g.S.Store c.args.config.now caller (request_view q) c.import_object.result
    c.args.tables.now c.import_object.new.tables) (sym c.in-Import.is)
    (c.import_object.ensures.met caller)

pub returns-in-Collect-clause-met : goal.returns-in-Collect-clause-met
returns-in-Collect-clause-met g c caller is =
    subst (λ (q : Request). IsMet g.S.Store c.args.config.now caller (request_view q) c.collect.result
    c.args.tables.now c.collect.new.tables) (sym c.in-Collect.is)
    (c.collect.ensures caller)

pub delete-requires : goal.delete-requires
delete-requires g c w t =
    deleted_sound c.args.config.now w c.in-Delete.paths.items
    (ap (λ (q : Request). list_any (lives c.args.config.now w) (named_in (request_view q))) (sym c.in-Delete.is)
    ∙ c.requires.dead w t) c.args.tables.now.dir t.sound

pub returns-in-Delete-clause-met : goal.returns-in-Delete-clause-met
returns-in-Delete-clause-met g c caller is =
    subst (λ (q : Request). IsMet g.S.Store c.args.config.now caller (request_view q) c.delete.result
    c.args.tables.now c.delete.new.tables) (sym c.in-Delete.is)
    (c.delete.ensures c.args.config.now caller)

-- ---- the store directory

-- The tests and the change of a request are the same for every caller.
anyone : Caller
anyone = caller_of [] None

pub returns-in-AddText-clause-dir : goal.returns-in-AddText-clause-dir
returns-in-AddText-clause-dir g c = (c.add_text.ensures anyone).dir

pub returns-in-Nar-clause-dir : goal.returns-in-Nar-clause-dir
returns-in-Nar-clause-dir g c = (c.archive.ensures c.args.config.now anyone).dir

pub returns-in-Ls-clause-dir : goal.returns-in-Ls-clause-dir
returns-in-Ls-clause-dir g c = (c.listing.ensures c.args.config.now anyone).dir

pub returns-in-SetPermanent-clause-dir : goal.returns-in-SetPermanent-clause-dir
returns-in-SetPermanent-clause-dir g c = (c.set_permanent.ensures c.args.config.now anyone).dir

pub returns-in-DropPermanent-clause-dir : goal.returns-in-DropPermanent-clause-dir
returns-in-DropPermanent-clause-dir g c = (c.drop_permanent.ensures c.args.config.now anyone).dir

pub returns-in-SetUserRoot-clause-dir : goal.returns-in-SetUserRoot-clause-dir
returns-in-SetUserRoot-clause-dir g c = (c.set_user_root.ensures c.args.config.now anyone).dir

pub returns-in-DropUserRoot-clause-dir : goal.returns-in-DropUserRoot-clause-dir
returns-in-DropUserRoot-clause-dir g c = (c.drop_user_root.ensures c.args.config.now anyone).dir

pub returns-in-Rollback-clause-dir : goal.returns-in-Rollback-clause-dir
returns-in-Rollback-clause-dir g c = (c.rollback.ensures c.args.config.now anyone).dir

pub returns-in-Switch-clause-dir : goal.returns-in-Switch-clause-dir
returns-in-Switch-clause-dir g c = (c.switch.ensures c.args.config.now anyone).dir

pub returns-in-DeleteGeneration-clause-dir : goal.returns-in-DeleteGeneration-clause-dir
returns-in-DeleteGeneration-clause-dir g c = (c.delete_generation.ensures c.args.config.now anyone).dir

pub returns-in-SetProfile-clause-dir : goal.returns-in-SetProfile-clause-dir
returns-in-SetProfile-clause-dir g c = (c.set_profile.ensures c.args.config.now anyone).dir

pub returns-in-AddTemp-clause-dir : goal.returns-in-AddTemp-clause-dir
returns-in-AddTemp-clause-dir g c = (c.add_temp.ensures c.args.config.now anyone).dir

pub returns-in-EndSession-clause-dir : goal.returns-in-EndSession-clause-dir
returns-in-EndSession-clause-dir g c = (c.end_session.ensures c.args.config.now anyone).dir

pub returns-in-ReplaceRuntime-clause-dir : goal.returns-in-ReplaceRuntime-clause-dir
returns-in-ReplaceRuntime-clause-dir g c = (c.replace_runtime.ensures c.args.config.now anyone).dir

pub returns-in-AddSource-clause-dir : goal.returns-in-AddSource-clause-dir
returns-in-AddSource-clause-dir g c = (c.add_source.ensures.met anyone).dir

pub returns-in-Import-clause-dir : goal.returns-in-Import-clause-dir
returns-in-Import-clause-dir g c = (c.import_object.ensures.met anyone).dir

pub returns-in-Collect-clause-dir : goal.returns-in-Collect-clause-dir
returns-in-Collect-clause-dir g c = (c.collect.ensures anyone).dir

pub returns-in-Delete-clause-dir : goal.returns-in-Delete-clause-dir
returns-in-Delete-clause-dir g c = (c.delete.ensures c.args.config.now anyone).dir

-- ---- an archive that was lost to memory

pub returns-in-AddText-clause-spent : goal.returns-in-AddText-clause-spent
returns-in-AddText-clause-spent g c lost = absurd (is_whole c.args.request _ c.in-AddText.is refl lost)

pub returns-in-Info-clause-spent : goal.returns-in-Info-clause-spent
returns-in-Info-clause-spent g c lost = absurd (is_whole c.args.request _ c.in-Info.is refl lost)

pub returns-in-Nar-clause-spent : goal.returns-in-Nar-clause-spent
returns-in-Nar-clause-spent g c lost = absurd (is_whole c.args.request _ c.in-Nar.is refl lost)

pub returns-in-Ls-clause-spent : goal.returns-in-Ls-clause-spent
returns-in-Ls-clause-spent g c lost = absurd (is_whole c.args.request _ c.in-Ls.is refl lost)

pub returns-in-List-clause-spent : goal.returns-in-List-clause-spent
returns-in-List-clause-spent g c lost = absurd (is_whole c.args.request _ c.in-List.is refl lost)

pub returns-in-Live-clause-spent : goal.returns-in-Live-clause-spent
returns-in-Live-clause-spent g c lost = absurd (is_whole c.args.request _ c.in-Live.is refl lost)

pub returns-in-Dead-clause-spent : goal.returns-in-Dead-clause-spent
returns-in-Dead-clause-spent g c lost = absurd (is_whole c.args.request _ c.in-Dead.is refl lost)

pub returns-in-ListRoots-clause-spent : goal.returns-in-ListRoots-clause-spent
returns-in-ListRoots-clause-spent g c lost = absurd (is_whole c.args.request _ c.in-ListRoots.is refl lost)

pub returns-in-RootsOf-clause-spent : goal.returns-in-RootsOf-clause-spent
returns-in-RootsOf-clause-spent g c lost = absurd (is_whole c.args.request _ c.in-RootsOf.is refl lost)

pub returns-in-Report-clause-spent : goal.returns-in-Report-clause-spent
returns-in-Report-clause-spent g c lost = absurd (is_whole c.args.request _ c.in-Report.is refl lost)

pub returns-in-SetPermanent-clause-spent : goal.returns-in-SetPermanent-clause-spent
returns-in-SetPermanent-clause-spent g c lost = absurd (is_whole c.args.request _ c.in-SetPermanent.is refl lost)

pub returns-in-DropPermanent-clause-spent : goal.returns-in-DropPermanent-clause-spent
returns-in-DropPermanent-clause-spent g c lost = absurd (is_whole c.args.request _ c.in-DropPermanent.is refl lost)

pub returns-in-SetUserRoot-clause-spent : goal.returns-in-SetUserRoot-clause-spent
returns-in-SetUserRoot-clause-spent g c lost = absurd (is_whole c.args.request _ c.in-SetUserRoot.is refl lost)

pub returns-in-DropUserRoot-clause-spent : goal.returns-in-DropUserRoot-clause-spent
returns-in-DropUserRoot-clause-spent g c lost = absurd (is_whole c.args.request _ c.in-DropUserRoot.is refl lost)

pub returns-in-Rollback-clause-spent : goal.returns-in-Rollback-clause-spent
returns-in-Rollback-clause-spent g c lost = absurd (is_whole c.args.request _ c.in-Rollback.is refl lost)

pub returns-in-Switch-clause-spent : goal.returns-in-Switch-clause-spent
returns-in-Switch-clause-spent g c lost = absurd (is_whole c.args.request _ c.in-Switch.is refl lost)

pub returns-in-DeleteGeneration-clause-spent : goal.returns-in-DeleteGeneration-clause-spent
returns-in-DeleteGeneration-clause-spent g c lost =
    absurd (is_whole c.args.request _ c.in-DeleteGeneration.is refl lost)

pub returns-in-SetProfile-clause-spent : goal.returns-in-SetProfile-clause-spent
returns-in-SetProfile-clause-spent g c lost = absurd (is_whole c.args.request _ c.in-SetProfile.is refl lost)

pub returns-in-AddTemp-clause-spent : goal.returns-in-AddTemp-clause-spent
returns-in-AddTemp-clause-spent g c lost = absurd (is_whole c.args.request _ c.in-AddTemp.is refl lost)

pub returns-in-EndSession-clause-spent : goal.returns-in-EndSession-clause-spent
returns-in-EndSession-clause-spent g c lost = absurd (is_whole c.args.request _ c.in-EndSession.is refl lost)

pub returns-in-ReplaceRuntime-clause-spent : goal.returns-in-ReplaceRuntime-clause-spent
returns-in-ReplaceRuntime-clause-spent g c lost = absurd (is_whole c.args.request _ c.in-ReplaceRuntime.is refl lost)

pub returns-in-AddSource-clause-spent : goal.returns-in-AddSource-clause-spent
returns-in-AddSource-clause-spent g c lost =
    c.add_source.ensures.spent (is_lost c.in-AddSource.nar (ap is_spent (sym c.in-AddSource.is) ∙ lost))

pub returns-in-Import-clause-spent : goal.returns-in-Import-clause-spent
returns-in-Import-clause-spent g c lost =
    c.import_object.ensures.spent (is_lost c.in-Import.nar (ap is_spent (sym c.in-Import.is) ∙ lost))

pub returns-in-Collect-clause-spent : goal.returns-in-Collect-clause-spent
returns-in-Collect-clause-spent g c lost = absurd (is_whole c.args.request _ c.in-Collect.is refl lost)

pub returns-in-Delete-clause-spent : goal.returns-in-Delete-clause-spent
returns-in-Delete-clause-spent g c lost = absurd (is_whole c.args.request _ c.in-Delete.is refl lost)
