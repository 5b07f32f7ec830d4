use Rattle.std.proofs.Common.{◌≡◌, ℕ, List, None, Err, Result, refl, sym, ap, subst, ◌∙◌}
use Rattle.std.proofs.lemmas.Result.{err_from_is_err_and}
use Rattle.std.specs.Prelude.{string_bytes}
use Rattle.model.specs.Request.{drop_permanent}
use Rattle.model.specs.Tests.{refusal}
use Rattle.model.specs.Effects.{without_permanent}
use Rattle.store_types.specs.declared.replies.Answer.{Answer}
use Rattle.store_types.specs.declared.replies.Answer.TheVariants.{Changed}
use Rattle.store_types.specs.declared.replies.Stop.{Stop}
use Rattle.store_types.specs.declared.replies.Stop.TheVariants.{Refused}
use Rattle.store_promises.specs.Meets.{IsMet}
use Rattle.tables_writes.specs.Reasons.{NoRow}
use Rattle.store_promises.proofs.Caused.{own_among, write_fails}
use Rattle.store_promises.proofs.Written.{met_by_stopping, met_by_writing}
use Rattle.model.proofs.SoundRoots.{permanent_dropped}
use Rattle.store_roots.proofs.permanent.drop_permanent.Goals as goal

pub drop_permanent-requires : goal.drop_permanent-requires
drop_permanent-requires g c =
    record { sound = λ w t. permanent_dropped c.args.tables.now.dir w t.sound c.as_str-text.result.now }

pub returns-in_err-may_drop : goal.returns-in_err-may_drop
returns-in_err-may_drop g c s caller =
    let p = err_from_is_err_and c.from_residual.result c.from_residual.ensures.1 in
    rw (p.1, p.2) (subst (λ (n : List ℕ). IsMet g.S.Store s caller (drop_permanent n)
    (Err (Refused c.in_err-may_drop.field-0.0)) c.args.tables.now c.args.tables.now) c.as_str-text.ensures.value
    (met_by_stopping g.S.Store s caller (drop_permanent c.as_str-text.result.now) c.args.tables.now
    (Refused c.in_err-may_drop.field-0.0) c.outline.result.now c.outline.ensures
    (λ w is. c.in_err-may_drop.ensures s w is)))

pub returns : goal.returns
returns g c s caller =
    let name = string_bytes c.args.name in
    let same = c.as_str-text.ensures.value in
    subst (λ (r : Result Answer Stop). IsMet g.S.Store s caller (drop_permanent name) r c.args.tables.now
    c.drop_permanent.new.self) (sym c.answered.ensures)
    (met_by_writing g.S.Store s caller (drop_permanent name) c.args.tables.now c.drop_permanent.new.self
    (λ w. without_permanent w c.as_str-text.result.now) Changed
    (λ w is. subst (λ (n : List ℕ). refusal s w (drop_permanent n) ≡ None) same
    (c.in_ok-may_drop.ensures s w (is ∙ sym c.outline.ensures)))
    (λ w is. refl) (λ w is. ap (λ (n : List ℕ). without_permanent w n) same)
    c.drop_permanent.result c.drop_permanent.ensures.frame
    (write_fails g.S.Store (drop_permanent name) c.args.tables.now c.drop_permanent.new.self refl NoRow
    (own_among NoRow) (λ t row none. absurd none) Changed c.drop_permanent.result c.drop_permanent.ensures.cause))
