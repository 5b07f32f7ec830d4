use Rattle.std.proofs.Common.{ℕ, List, Result, refl, sym, ap₂, subst, ◌∙◌}
use Rattle.std.proofs.lemmas.Result.{err_from_is_err_and}
use Rattle.std.specs.Prelude.{string_bytes}
use Rattle.model.specs.Request.{drop_user_root}
use Rattle.model.specs.Effects.{without_user_root}
use Rattle.store_types.specs.declared.replies.Answer.{Answer}
use Rattle.store_types.specs.declared.replies.Answer.TheVariants.{Changed}
use Rattle.store_types.specs.declared.replies.Stop.{Stop}
use Rattle.store_types.specs.declared.replies.Stop.TheVariants.{Refused}
use Rattle.store_promises.specs.Meets.{IsMet}
use Rattle.model.proofs.SoundRoots.{user_root_dropped}
use Rattle.tables_writes.specs.Reasons.{NoRow}
use Rattle.store_promises.proofs.Caused.{own_among, write_fails}
use Rattle.store_promises.proofs.Written.{met_by_stopping, met_by_writing}
use Rattle.store_roots.proofs.user_roots.drop_user_root.Goals as goal

pub drop_user_root-requires : goal.drop_user_root-requires
drop_user_root-requires g c =
    record {
      sound = λ w t. user_root_dropped c.args.tables.now.dir w t.sound c.as_str.result.now c.as_str-2.result.now;
    }

pub returns-in_err-may_drop : goal.returns-in_err-may_drop
returns-in_err-may_drop g c s caller =
    let p = err_from_is_err_and c.from_residual.result c.from_residual.ensures.1 in
    rw (p.1, p.2) (met_by_stopping g.S.Store s caller
    (drop_user_root (string_bytes c.args.owned.0) (string_bytes c.args.owned.1)) c.args.tables.now
    (Refused c.in_err-may_drop.field-0.0) c.outline.result.now c.outline.ensures
    (λ w is. c.in_err-may_drop.ensures s w is))

pub returns : goal.returns
returns g c s caller =
    let owner = string_bytes c.args.owned.0 in
    let name = string_bytes c.args.owned.1 in
    subst (λ (r : Result Answer Stop). IsMet g.S.Store s caller (drop_user_root owner name) r c.args.tables.now
    c.drop_user_root.new.self) (sym c.answered.ensures)
    (met_by_writing g.S.Store s caller (drop_user_root owner name) c.args.tables.now c.drop_user_root.new.self
    (λ w. without_user_root w (c.as_str.result.now, c.as_str-2.result.now)) Changed
    (λ w is. c.in_ok-may_drop.ensures s w (is ∙ sym c.outline.ensures))
    (λ w is. refl) (λ w is. ap₂ (λ (o n : List ℕ). without_user_root w (o, n)) c.as_str.ensures.value
    c.as_str-2.ensures.value)
    c.drop_user_root.result c.drop_user_root.ensures.frame
    (write_fails g.S.Store (drop_user_root owner name) c.args.tables.now c.drop_user_root.new.self refl NoRow
    (own_among NoRow) (λ t row none. absurd none) Changed c.drop_user_root.result c.drop_user_root.ensures.cause))
