use Rattle.std.proofs.Common.{[], refl, sym, ap, ◌∙◌}
use Rattle.std.proofs.lemmas.Result.{err_from_is_err_and}
use Rattle.model.specs.World.{has}
use Rattle.model.specs.declared.refusal.Refusal.TheVariants.{NotValid}
use Rattle.model.proofs.Passed.{met, passed}
use Rattle.model.specs.Reply.{listing_of}
use Rattle.model.specs.Request.{ls}
use Rattle.store_types.specs.declared.replies.Stop.TheVariants.{Refused}
use Rattle.store.proofs.FromDisk.{met_by_disk}
use Rattle.store_promises.proofs.Caused.{read_fails}
use Rattle.store_promises.proofs.Written.{met_by_stopping}
use Rattle.store.proofs.disk.listing.Goals as goal

pub returns : goal.returns
returns g c s caller =
    met_by_disk g.S.Store s caller (ls c.args.path) c.args.tables.now c.read_listing.new.tables _
    c.in_ok-text.ensures.reads (λ h. h) (λ w t. tt)
    (λ w t. (
      c.in_ok-may_read.ensures s w (t.outline ∙ sym c.outline.ensures),
      λ honest. ap listing_of (c.in_ok-text.ensures.value (honest refl) w t),
      refl,
    ))

pub returns-in_err-text : goal.returns-in_err-text
returns-in_err-text g c s caller =
    let p = err_from_is_err_and c.from_residual-in_err-text.result c.from_residual-in_err-text.ensures.1 in
    rw (p.1, p.2) (met_by_disk g.S.Store s caller (ls c.args.path) c.args.tables.now c.read_listing.new.tables _
    c.in_err-text.ensures.reads (λ h. h)
    (λ w t. read_fails g.S.Store (ls c.args.path) c.args.tables.now c.read_listing.new.tables refl _
    (c.in_err-text.ensures.cause w t
    (met (has w c.args.path) NotValid
    (passed _ [] (c.in_ok-may_read.ensures s w (t.outline ∙ sym c.outline.ensures))).0)))
    (λ w t. refl))

pub returns-in_err-may_read : goal.returns-in_err-may_read
returns-in_err-may_read g c s caller =
    let p = err_from_is_err_and c.from_residual.result c.from_residual.ensures.1 in
    rw (p.1, p.2) (met_by_stopping g.S.Store s caller (ls c.args.path) c.args.tables.now
    (Refused c.in_err-may_read.field-0.0) c.outline.result.now c.outline.ensures
    (λ w is. c.in_err-may_read.ensures s w is))
