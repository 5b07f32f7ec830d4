use Rattle.std.proofs.Common.{◌≡◌, ℕ, List, None, Err, Result, refl, sym, ap, subst, ◌∙◌}
use Rattle.std.proofs.lemmas.Result.{err_from_is_err_and}
use Rattle.std.specs.Prelude.{string_bytes}
use Rattle.model.specs.Request.{set_permanent}
use Rattle.model.specs.Tests.{refusal}
use Rattle.model.specs.Effects.{with_permanent}
use Rattle.store_types.specs.declared.replies.Answer.{Answer}
use Rattle.store_types.specs.declared.replies.Answer.TheVariants.{Changed}
use Rattle.store_types.specs.declared.replies.Stop.{Stop}
use Rattle.store_types.specs.declared.replies.Stop.TheVariants.{Refused}
use Rattle.store_promises.specs.Meets.{IsMet}
use Rattle.tables_writes.specs.Reasons.{AreAmong}
use Rattle.tables_writes.specs.RowsPut.{PermanentRow}
use Rattle.store_promises.proofs.Caused.{own_among, write_fails}
use Rattle.store_promises.proofs.Written.{met_by_stopping, met_by_writing}
use Rattle.store_promises.proofs.Fits.{no_settings, permanent_fits}
use Rattle.store_roots.proofs.permanent.set_permanent.Goals as goal

pub put_permanent-requires : goal.put_permanent-requires
put_permanent-requires g c = record {
  sound =
      λ w t. permanent_fits c.args.tables.now.dir w t.sound c.as_str-text.result.now c.args.path
      (c.in_ok-may_set.ensures no_settings w (t.outline ∙ sym c.outline.ensures));
}

pub returns-in_err-may_set : goal.returns-in_err-may_set
returns-in_err-may_set g c s caller =
    let path = c.args.path in
    let p = err_from_is_err_and c.from_residual.result c.from_residual.ensures.1 in
    rw (p.1, p.2) (subst (λ (n : List ℕ). IsMet g.S.Store s caller (set_permanent n path)
    (Err (Refused c.in_err-may_set.field-0.0)) c.args.tables.now c.args.tables.now) c.as_str-text.ensures.value
    (met_by_stopping g.S.Store s caller (set_permanent c.as_str-text.result.now path) c.args.tables.now
    (Refused c.in_err-may_set.field-0.0) c.outline.result.now c.outline.ensures
    (λ w is. c.in_err-may_set.ensures s w is)))

pub returns : goal.returns
returns g c s caller =
    let name = string_bytes c.args.name in
    let path = c.args.path in
    let same = c.as_str-text.ensures.value in
    subst (λ (r : Result Answer Stop). IsMet g.S.Store s caller (set_permanent name path) r c.args.tables.now
    c.put_permanent.new.self) (sym c.answered.ensures)
    (met_by_writing g.S.Store s caller (set_permanent name path) c.args.tables.now c.put_permanent.new.self
    (λ w. with_permanent w c.as_str-text.result.now path) Changed
    (λ w is. subst (λ (n : List ℕ). refusal s w (set_permanent n path) ≡ None) same
    (c.in_ok-may_set.ensures s w (is ∙ sym c.outline.ensures)))
    (λ w is. refl) (λ w is. ap (λ (n : List ℕ). with_permanent w n path) same)
    c.put_permanent.result c.put_permanent.ensures.frame
    (write_fails g.S.Store (set_permanent name path) c.args.tables.now c.put_permanent.new.self refl
    (PermanentRow c.as_str-text.result.now path)
    (subst (λ (n : List ℕ). AreAmong (PermanentRow c.as_str-text.result.now path) (PermanentRow n path)) same
    (own_among (PermanentRow c.as_str-text.result.now path))) (λ t row put. refl) Changed c.put_permanent.result
    c.put_permanent.ensures.cause))
