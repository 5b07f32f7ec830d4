use Rattle.std.proofs.Common.{ℕ, List, Result, refl, sym, ap₂, subst, subst₂, ◌∙◌}
use Rattle.std.proofs.lemmas.Result.{err_from_is_err_and}
use Rattle.std.specs.Prelude.{string_bytes}
use Rattle.model.specs.Request.{set_user_root}
use Rattle.model.specs.Effects.{with_user_root}
use Rattle.store_types.specs.declared.replies.Answer.{Answer}
use Rattle.store_types.specs.declared.replies.Answer.TheVariants.{Changed}
use Rattle.store_types.specs.declared.replies.Stop.{Stop}
use Rattle.store_types.specs.declared.replies.Stop.TheVariants.{Refused}
use Rattle.store_promises.specs.Meets.{IsMet}
use Rattle.tables_writes.specs.Reasons.{AreAmong}
use Rattle.tables_writes.specs.RowsPut.{UserRootRow}
use Rattle.store_promises.proofs.Caused.{own_among, write_fails}
use Rattle.store_promises.proofs.Written.{sound_as, met_by_stopping, met_by_writing}
use Rattle.store_promises.proofs.Fits.{no_settings, user_root_fits}
use Rattle.store_roots.proofs.user_roots.set_user_root.Goals as goal

pub put_user_root-requires : goal.put_user_root-requires
put_user_root-requires g c =
    let owner = string_bytes c.args.owned.0 in
    let name = string_bytes c.args.owned.1 in
    let path = c.args.path in
    record {
      sound =
          sound_as g.S.Store c.args.tables.now (λ w. with_user_root w (c.as_str.result.now, c.as_str-2.result.now) path)
          (λ w. with_user_root w (owner, name) path)
          (λ w t. ap₂ (λ (o n : List ℕ). with_user_root w (o, n) path) c.as_str.ensures.value c.as_str-2.ensures.value)
          (λ w t. user_root_fits c.args.tables.now.dir w t.sound owner name path
          (c.in_ok-may_set.ensures no_settings w (t.outline ∙ sym c.outline.ensures)));
    }

pub returns-in_err-may_set : goal.returns-in_err-may_set
returns-in_err-may_set g c s caller =
    let p = err_from_is_err_and c.from_residual.result c.from_residual.ensures.1 in
    rw (p.1, p.2) (met_by_stopping g.S.Store s caller
    (set_user_root (string_bytes c.args.owned.0) (string_bytes c.args.owned.1) c.args.path) c.args.tables.now
    (Refused c.in_err-may_set.field-0.0) c.outline.result.now c.outline.ensures
    (λ w is. c.in_err-may_set.ensures s w is))

pub returns : goal.returns
returns g c s caller =
    let owner = string_bytes c.args.owned.0 in
    let name = string_bytes c.args.owned.1 in
    let path = c.args.path in
    subst (λ (r : Result Answer Stop). IsMet g.S.Store s caller (set_user_root owner name path) r c.args.tables.now
    c.put_user_root.new.self) (sym c.answered.ensures)
    (met_by_writing g.S.Store s caller (set_user_root owner name path) c.args.tables.now c.put_user_root.new.self
    (λ w. with_user_root w (c.as_str.result.now, c.as_str-2.result.now) path) Changed
    (λ w is. c.in_ok-may_set.ensures s w (is ∙ sym c.outline.ensures))
    (λ w is. refl) (λ w is. ap₂ (λ (o n : List ℕ). with_user_root w (o, n) path) c.as_str.ensures.value
    c.as_str-2.ensures.value)
    c.put_user_root.result c.put_user_root.ensures.frame
    (write_fails g.S.Store (set_user_root owner name path) c.args.tables.now c.put_user_root.new.self refl
    (UserRootRow (c.as_str.result.now, c.as_str-2.result.now) path)
    (subst₂ (λ (o n : List ℕ). AreAmong (UserRootRow (c.as_str.result.now, c.as_str-2.result.now) path)
    (UserRootRow (o, n) path)) c.as_str.ensures.value c.as_str-2.ensures.value
    (own_among (UserRootRow (c.as_str.result.now, c.as_str-2.result.now) path))) (λ t row put. refl) Changed
    c.put_user_root.result c.put_user_root.ensures.cause))
