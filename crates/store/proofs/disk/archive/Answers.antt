use Rattle.std.proofs.Common.{[], refl, sym, ap, ◌∙◌}
use Rattle.std.proofs.lemmas.Result.{err_from_is_err_and}
use Rattle.model.specs.World.{has}
use Rattle.model.specs.declared.refusal.Refusal.TheVariants.{NotValid}
use Rattle.model.proofs.Passed.{met, passed}
use Rattle.model.specs.Reply.{archive_of}
use Rattle.model.specs.Request.{nar}
use Rattle.store_types.specs.declared.replies.Stop.TheVariants.{Refused}
use Rattle.store.proofs.FromDisk.{met_by_disk}
use Rattle.store_promises.proofs.Caused.{read_fails}
use Rattle.store_promises.proofs.Written.{met_by_stopping}
use Rattle.store.proofs.disk.archive.Goals as goal

pub returns : goal.returns
returns g c s caller =
    met_by_disk g.S.Store s caller (nar c.args.path) c.args.tables.now c.read.new.tables _ c.in_ok-nar.ensures.reads
    (λ h. h) (λ w t. tt)
    (λ w t. (
      c.in_ok-may_read.ensures s w (t.outline ∙ sym c.outline.ensures),
      λ honest. ap archive_of (c.in_ok-nar.ensures.value (honest refl) w t),
      refl,
    ))

pub returns-in_err-nar : goal.returns-in_err-nar
returns-in_err-nar g c s caller =
    let p = err_from_is_err_and c.from_residual-in_err-nar.result c.from_residual-in_err-nar.ensures.1 in
    rw (p.1, p.2) (met_by_disk g.S.Store s caller (nar c.args.path) c.args.tables.now c.read.new.tables _
    c.in_err-nar.ensures.reads (λ h. h)
    (λ w t. read_fails g.S.Store (nar c.args.path) c.args.tables.now c.read.new.tables refl _
    (c.in_err-nar.ensures.cause w t
    (met (has w c.args.path) NotValid
    (passed _ [] (c.in_ok-may_read.ensures s w (t.outline ∙ sym c.outline.ensures))).0)))
    (λ w t. refl))

pub returns-in_err-may_read : goal.returns-in_err-may_read
returns-in_err-may_read g c s caller =
    let p = err_from_is_err_and c.from_residual.result c.from_residual.ensures.1 in
    rw (p.1, p.2) (met_by_stopping g.S.Store s caller (nar c.args.path) c.args.tables.now
    (Refused c.in_err-may_read.field-0.0) c.outline.result.now c.outline.ensures
    (λ w is. c.in_err-may_read.ensures s w is))
