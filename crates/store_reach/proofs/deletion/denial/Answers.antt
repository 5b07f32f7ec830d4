use Rattle.std.proofs.Common.{List, subst, sym, ap, ◌∙◌}
use Rattle.std.proofs.lemmas.Bool.{false≢true}
use Rattle.model.specs.Request as asked
use Rattle.model.specs.World.{Path}
use Rattle.store_reach.specs.Found.{IsDenial, deletes}
use Rattle.store_types.specs.View.{request_view}
use Rattle.store_reach.proofs.Denied.{denied_as}
use Rattle.store_reach.proofs.deletion.denial.Goals as goal

pub returns-in_ok-root-in-Delete-clause-root : goal.returns-in_ok-root-in-Delete-clause-root
returns-in_ok-root-in-Delete-clause-root c w caller reported is =
    let s = c.args.config.now in
    subst (λ (q : asked.Request). IsDenial s w caller q c.in_ok-root-in-Delete.root)
    (ap (λ (ps : List Path). asked.delete ps c.in-Delete.ignore_liveness) c.deref.ensures.value
    ∙ ap request_view (sym c.in-Delete.is))
    (denied_as s w caller c.deref.result.now c.in-Delete.ignore_liveness c.args.class is c.in_ok-root-in-Delete.root
    (c.in_ok-root-in-Delete.ensures.root w reported) (c.in_ok-root-in-Delete.ensures.lives w reported))

pub returns-in_ok-root-in-Delete-clause-unnamed : goal.returns-in_ok-root-in-Delete-clause-unnamed
returns-in_ok-root-in-Delete-clause-unnamed c none =
    absurd (false≢true (sym none ∙ ap (λ r. deletes (request_view r)) c.in-Delete.is))

pub returns-in_err-root-in-Delete-clause-unnamed : goal.returns-in_err-root-in-Delete-clause-unnamed
returns-in_err-root-in-Delete-clause-unnamed c none =
    absurd (false≢true (sym none ∙ ap (λ r. deletes (request_view r)) c.in-Delete.is))
