use Rattle.std.proofs.Common.{◌≡◌, ℕ, List, None, Err, Result, refl, sym, ap₂, subst, subst₂, ◌∙◌}
use Rattle.std.proofs.lemmas.Result.{err_from_is_err_and}
use Rattle.std.specs.Prelude.{string_bytes}
use Rattle.model.specs.Sound.{IsSound}
use Rattle.model.specs.Request.{add_temp}
use Rattle.model.specs.Tests.{refusal}
use Rattle.model.specs.Effects.{with_temporary}
use Rattle.store_types.specs.declared.replies.Answer.{Answer}
use Rattle.store_types.specs.declared.replies.Answer.TheVariants.{Changed}
use Rattle.store_types.specs.declared.replies.Stop.{Stop}
use Rattle.store_types.specs.declared.replies.Stop.TheVariants.{Refused}
use Rattle.store_promises.specs.Meets.{IsMet}
use Rattle.tables_writes.specs.Reasons.{AreAmong}
use Rattle.tables_writes.specs.RowsPut.{TemporaryRow}
use Rattle.store_promises.proofs.Caused.{own_among, write_fails}
use Rattle.store_promises.proofs.Written.{met_by_stopping, met_by_writing}
use Rattle.store_promises.proofs.Fits.{no_settings, temporary_fits}
use Rattle.store_roots.proofs.temporary.add_temp.Goals as goal

pub add_temp-requires : goal.add_temp-requires
add_temp-requires g c =
    let owner = c.as_str-text.result.now in
    record {
      sound =
          λ w t. subst (λ (n : ℕ). IsSound c.args.tables.now.dir
          (with_temporary w (record { owner = owner; session = n; path = c.args.path })))
          (sym c.in_ok-number.ensures.number)
          (temporary_fits c.args.tables.now.dir w t.sound owner c.args.session c.args.path
          (c.in_ok-number.ensures.reported no_settings w (t.outline ∙ sym c.outline.ensures)));
    }

pub returns-in_err-number : goal.returns-in_err-number
returns-in_err-number g c s caller =
    let session = c.args.session in
    let path = c.args.path in
    let p = err_from_is_err_and c.from_residual.result c.from_residual.ensures.1 in
    rw (p.1, p.2) (subst (λ (n : List ℕ). IsMet g.S.Store s caller (add_temp n session path)
    (Err (Refused c.in_err-number.field-0.0)) c.args.tables.now c.args.tables.now) c.as_str-text.ensures.value
    (met_by_stopping g.S.Store s caller (add_temp c.as_str-text.result.now session path) c.args.tables.now
    (Refused c.in_err-number.field-0.0) c.outline.result.now c.outline.ensures
    (λ w is. c.in_err-number.ensures.reported s w is)))

pub returns : goal.returns
returns g c s caller =
    let owner = string_bytes c.args.owner in
    let session = c.args.session in
    let path = c.args.path in
    subst (λ (r : Result Answer Stop). IsMet g.S.Store s caller (add_temp owner session path) r c.args.tables.now
    c.add_temp.new.self) (sym c.answered.ensures)
    (met_by_writing g.S.Store s caller (add_temp owner session path) c.args.tables.now c.add_temp.new.self
    (λ w. with_temporary w (record { owner = c.as_str-text.result.now; session = c.in_ok-number.number; path = path }))
    Changed
    (λ w is. subst (λ (n : List ℕ). refusal s w (add_temp n session path) ≡ None) c.as_str-text.ensures.value
    (c.in_ok-number.ensures.reported s w (is ∙ sym c.outline.ensures)))
    (λ w is. refl)
    (λ w is. ap₂ (λ (o : List ℕ) (n : ℕ). with_temporary w (record { owner = o; session = n; path = path }))
    c.as_str-text.ensures.value c.in_ok-number.ensures.number)
    c.add_temp.result c.add_temp.ensures.frame
    (write_fails g.S.Store (add_temp owner session path) c.args.tables.now c.add_temp.new.self refl
    (TemporaryRow (record { owner = c.as_str-text.result.now; session = c.in_ok-number.number; path = path }))
    (subst₂ (λ (o : List ℕ) (n : ℕ). AreAmong
    (TemporaryRow (record { owner = c.as_str-text.result.now; session = c.in_ok-number.number; path = path }))
    (TemporaryRow (record { owner = o; session = n; path = path }))) c.as_str-text.ensures.value
    c.in_ok-number.ensures.number
    (own_among (TemporaryRow (record {
      owner = c.as_str-text.result.now;
      session = c.in_ok-number.number;
      path = path;
    })))) (λ t row put. refl) Changed c.add_temp.result c.add_temp.ensures.cause))
