use Rattle.std.proofs.Common.{◌≡◌, ℕ, List, None, Ok, Err, refl, sym, ap, ap₂, subst, ◌∙◌}
use Rattle.std.proofs.lemmas.Result.{err_from_is_err_and}
use Rattle.std.specs.Prelude.{string_bytes}
use Rattle.std.specs.FinMap as finite
use Rattle.tables_outline.specs.Outline.{OutlineValue}
use Rattle.model.specs.World.{no_world}
use Rattle.model.specs.Request.{end_session}
use Rattle.model.specs.Reply.{temporary_count}
use Rattle.model.specs.Tests.{refusal}
use Rattle.model.specs.Effects.{is_of_session, without_session}
use Rattle.model.proofs.SoundRoots.{session_ended}
use Rattle.store_types.specs.declared.replies.Answer.TheVariants.{TemporaryCount}
use Rattle.store_types.specs.declared.replies.Stop.TheVariants.{Refused}
use Rattle.store_promises.specs.Meets.{IsMet}
use Rattle.tables_writes.specs.Reasons.{NoRow}
use Rattle.store_promises.proofs.Caused.{own_among, write_fails}
use Rattle.store_promises.proofs.Written.{counted_done, counted_failed, met_by_stopping, met_by_writing}
use Rattle.store_roots.proofs.temporary.end_session.Goals as goal

pub end_session-requires : goal.end_session-requires
end_session-requires g c =
    record {
      sound = λ w t. session_ended c.args.tables.now.dir w t.sound c.as_str-text.result.now c.in_ok-number.number;
    }

pub returns : goal.returns
returns g c s caller =
    let owner = string_bytes c.args.owner in
    let session = c.args.session in
    let same = c.as_str-text.ensures.value in
    let numbered = (c.in_ok-number.ensures s no_world).1 in
    met_by_writing g.S.Store s caller (end_session owner session) c.args.tables.now c.end_session.new.self
    (λ w. without_session w c.as_str-text.result.now c.in_ok-number.number) (TemporaryCount c.in_ok-count.count)
    (λ w is. subst (λ (n : List ℕ). refusal s w (end_session n session) ≡ None) same (c.in_ok-number.ensures s w).0)
    (λ w is. ap temporary_count (c.in_ok-count.ensures.count
    ∙ ap (λ (o : OutlineValue). finite.len
    (finite.retain_keys o.temporary (is_of_session c.as_str-text.result.now c.in_ok-number.number))) (sym is)
    ∙ ap₂ (λ (o : List ℕ) (n : ℕ). finite.len (finite.retain_keys w.temporary (is_of_session o n))) same numbered))
    (λ w is. ap₂ (λ (o : List ℕ) (n : ℕ). without_session w o n) same numbered)
    (Ok tt) (counted_done g.S.Store c.args.tables.now c.end_session.new.self
    (λ w. without_session w c.as_str-text.result.now c.in_ok-number.number) c.in_ok-count.count
    c.in_ok-count.ensures.frame) tt

pub returns-in_err-count : goal.returns-in_err-count
returns-in_err-count g c s caller =
    let owner = string_bytes c.args.owner in
    let session = c.args.session in
    let same = c.as_str-text.ensures.value in
    let numbered = (c.in_ok-number.ensures s no_world).1 in
    let p = err_from_is_err_and c.from_residual-in_err-count.result c.from_residual-in_err-count.ensures.1 in
    rw (p.1, p.2) (met_by_writing g.S.Store s caller (end_session owner session) c.args.tables.now
    c.end_session.new.self (λ w. without_session w c.as_str-text.result.now c.in_ok-number.number)
    (TemporaryCount (finite.len (finite.retain_keys c.args.tables.now.outline.temporary (is_of_session owner session))))
    (λ w is. subst (λ (n : List ℕ). refusal s w (end_session n session) ≡ None) same (c.in_ok-number.ensures s w).0)
    (λ w is. ap (λ (o : OutlineValue). temporary_count
    (finite.len (finite.retain_keys o.temporary (is_of_session owner session)))) (sym is))
    (λ w is. ap₂ (λ (o : List ℕ) (n : ℕ). without_session w o n) same numbered)
    (Err c.in_err-count.field-0.0)
    (counted_failed g.S.Store c.args.tables.now c.end_session.new.self
    (λ w. without_session w c.as_str-text.result.now c.in_ok-number.number) c.in_err-count.field-0.0
    c.in_err-count.ensures.frame)
    (write_fails g.S.Store (end_session owner session) c.args.tables.now c.end_session.new.self refl NoRow
    (own_among NoRow) (λ t row none. absurd none)
    (TemporaryCount (finite.len (finite.retain_keys c.args.tables.now.outline.temporary (is_of_session owner session))))
    (Err c.in_err-count.field-0.0) c.in_err-count.ensures.cause))

pub returns-in_err-number : goal.returns-in_err-number
returns-in_err-number g c s caller =
    let p = err_from_is_err_and c.from_residual.result c.from_residual.ensures.1 in
    rw (p.1, p.2) (subst (λ (n : List ℕ). IsMet g.S.Store s caller (end_session n c.args.session)
    (Err (Refused c.in_err-number.field-0.0)) c.args.tables.now c.args.tables.now) c.as_str-text.ensures.value
    (met_by_stopping g.S.Store s caller (end_session c.as_str-text.result.now c.args.session) c.args.tables.now
    (Refused c.in_err-number.field-0.0) c.args.tables.now.outline refl (λ w is. c.in_err-number.ensures s w)))
