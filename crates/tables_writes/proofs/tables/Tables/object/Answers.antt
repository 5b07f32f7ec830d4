use Rattle.std.proofs.Common.{Some, is_some, sym, ap, ◌∙◌}
use Rattle.std.specs.FinMap as finite
use Rattle.std.proofs.lemmas.Bool.{false≢true}
use Rattle.tables_sql.specs.declared.failure.Failed.TheVariants.{Memory}
use Rattle.model.specs.World.{Object}
use Rattle.tables_writes.specs.TablesValue.{TablesValue}
use Rattle.tables_writes.proofs.AddedObjects.{none_reported}
use Rattle.tables_writes.proofs.Outlined.{none_found, object_found}
use Rattle.tables_writes.proofs.TablesRead.{made_of_read, stopped_after_read}
use Rattle.tables_writes.proofs.tables.Tables.object.Goals as goal

pub returns-in_err-nar : goal.returns-in_err-nar
returns-in_err-nar g c =
    stopped_after_read g.S.Store _ _ _ _ c.archive.ensures _ c.in_err-nar.ensures.cause _ _ c.from_residual.ensures.1

pub returns-in_default : goal.returns-in_default
returns-in_default g c =
    made_of_read g.S.Store _ _ _ _ c.archive.ensures _ _
    (λ clean w t. sym (none_reported (λ (o : Object). o.nar) (finite.get w.objects c.args.path.now)
    (sym (c.in_ok-nar.ensures.found clean w t) ∙ c.in_default.is)))
    (λ clean some. absurd (false≢true some)) (λ clean. tt)

pub returns-in_default-object : goal.returns-in_default-object
returns-in_default-object g c =
    made_of_read g.S.Store _ _ _ _ c.archive.ensures _ _
    (λ clean w t. none_found w c.self.inside.outline c.args.path.now
    ((c.archive.ensures.same w t).outline ∙ sym (ap (λ (n : TablesValue _). n.outline) c.self.view_is))
    c.in_default-object.ensures)
    (λ clean some. absurd (false≢true some)) (λ clean. tt)

pub returns-in_err-summary : goal.returns-in_err-summary
returns-in_err-summary g c =
    stopped_after_read g.S.Store _ _ _ _ c.archive.ensures Memory (λ clean. tt) _ _
    c.from_residual-in_err-summary.ensures.1

pub returns : goal.returns
returns g c =
    made_of_read g.S.Store _ _ _ _ c.archive.ensures _ _
    (λ clean w t.
    object_found w c.self.inside.outline c.args.path.now
    (Some (record { nar = c.in-Some.nar; summary = c.in_ok-summary.summary }))
    ((c.archive.ensures.same w t).outline ∙ sym (ap (λ (n : TablesValue _). n.outline) c.self.view_is))
    (ap Some c.in_ok-summary.ensures ∙ c.in-Some-object.ensures)
    (sym c.in-Some.is ∙ c.in_ok-nar.ensures.found clean w t))
    (λ clean some. c.in_ok-nar.ensures.was_open clean (ap is_some c.in-Some.is))
    (λ clean. tt)
