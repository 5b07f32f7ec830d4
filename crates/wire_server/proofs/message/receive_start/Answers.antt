use Rattle.std.proofs.Common.{◌≡◌, ◌++◌, ◌∙◌, ◌<◌, Ok, true, false, take, length, refl, sym, ap, subst, inl, inr, append-nil}
use Rattle.std.proofs.Common.{[], arith, take_all, length-append}
use Rattle.std.proofs.lemmas.List.{nil_from_length}
use Rattle.std.proofs.Math.Seq.{take-append_seam}
use Rattle.std.proofs.lemmas.Bool.Decides.{nat_tests}
use Rattle.std.proofs.KnownBytes.{Consumes-nil, Consumes-trans}
use Rattle.std.proofs.lemmas.Result.{err_from_is_err_and}
use Rattle.httparse.specs.Grammar.{HasNoRequest}
use Rattle.httparse.specs.declared.Status.TheVariants.{Complete, Partial}
use Rattle.wire_server.specs.declared.error.Fault.TheVariants.{BadHead}
use Rattle.wire_server.specs.Heads.{ShowsNothing, has_begun_in}
use Rattle.wire_server.specs.Messages.{AwaitsMore, HoldsLittle, IsFault, LookFinds}
use Rattle.wire_server.proofs.Heads.{none_in_nothing}
use Rattle.wire_server.proofs.Lines.{none_shown_in_nothing, shown_next, holds_little}
use Rattle.wire_server.specs.declared.error.WireError.TheVariants.{Read}
use Rattle.wire_server.proofs.Reading.{at_end_all, beyond_seen, no_head, took_more, whatever}
use Rattle.wire_server.proofs.message.receive_start.Goals.{
  else-is_empty-via-then-is_empty+in_ok-read_more+else-not-branch,
}
use Rattle.wire_server.proofs.message.receive_start.Goals.{else-is_empty-via-else-is_empty}
use Rattle.wire_server.proofs.message.receive_start.Goals as goal

pub head-init : goal.head-init
head-init g c = elim c.else-is_empty.branch [
  | else-is_empty-via-then-is_empty+in_ok-read_more+else-not-branch w ↦
      let came : w.read_more.result ≡ Ok true = cc in
      let read = w.read_more.ensures.consumed in
      let longer = w.read_more.ensures.some came in
      let more = rw came at w.read_more.ensures.few in
      let none : length c.args.buffer.now.items ≡ 0 =
      grind (arith, nat_tests, c.is_empty.ensures, w.if-is_empty.true, c.args.buffer.now.ok.0) in
      rw (w.input-is, w.buffer-is) (record {
        took = record { bytes = read.0; consumed = read.1; kept = rw came at read.2 };
        none = none_in_nothing;
        shown = none_shown_in_nothing;
        begun = refl;
        within = omega arith;
        some = omega (arith, longer);
        short = omega arith;
        few = omega (arith, more, none);
      })
  | else-is_empty-via-else-is_empty w ↦
      let some : 0 < length c.args.buffer.now.items =
      grind (arith, nat_tests, c.is_empty.ensures, w.if-is_empty.false, c.args.buffer.now.ok.0) in
      rw (w.input-is, w.buffer-is) (record {
        took = record { bytes = _; consumed = Consumes-nil _; kept = sym (append-nil _) };
        none = none_in_nothing;
        shown = none_shown_in_nothing;
        begun = refl;
        within = omega arith;
        some = some;
        short = omega arith;
        few = omega arith;
      })
]

pub returns-in_err-read_more-2 : goal.returns-in_err-read_more-2
returns-in_err-read_more-2 g c =
    let took = c.head.invariant.took in
    let read = c.in_err-read_more-2.ensures.consumed in
    let held = c.args.buffer.now.items in
    let found = rw c.deref.ensures.value at c.look_again-has_begun.ensures.found in
    let partial : c.in-Ok-Partial.field-0 ≡ Partial = rw c.in-Ok-Partial.is at c.in-Ok-Partial.field-0-is in
    let looked = subst (λ s. LookFinds c.head.buffer.items (Ok s)) partial (rw c.in-Ok-Partial.is at found) in
    let soon = rw c.deref.ensures.value at c.look_again-has_begun.ensures.soon in
    let shown =
    shown_next c.head.buffer.items c.head.seen (Ok c.in-Ok-Partial.field-0) c.head.invariant.shown
    (rw c.in-Ok-Partial.is at soon) (λ e. cc) in
    let awaits : c.in_err-read_more-2.field-0.0 ≡ Read → AwaitsMore (held ++ (took.bytes ++ read.0)) =
    λ failed.
    let whole : held ++ (took.bytes ++ read.0) ≡ c.head.buffer.items =
    ap (λ t. held ++ (took.bytes ++ t)) (read.3 failed) ∙ ap (λ t. held ++ t) (append-nil took.bytes)
    ∙ sym took.kept in
    subst AwaitsMore (sym whole) (inl (looked.0, looked.1, shown)) in
    let p =
    err_from_is_err_and c.from_residual-in_err-read_more-2.result c.from_residual-in_err-read_more-2.ensures.1 in
    rw (p.1, p.2) (
      (_, Consumes-trans _ _ _ _ _ took.consumed read.1, tt, λ failed. awaits failed),
      tt,
      c.in_err-read_more-2.ensures.fault,
    )

pub look_again-has_begun-requires : goal.look_again-has_begun-requires
look_again-has_begun-requires g c = rw c.deref.ensures.value (record {
  within = c.head.invariant.within;
  none = c.head.invariant.none;
  begun = c.head.invariant.begun;
})

pub returns-in-Err : goal.returns-in-Err
returns-in-Err g c =
    let before = c.head.invariant in
    let found = rw c.deref.ensures.value at c.look_again-has_begun.ensures.found in
    let fault = rw c.in-Err.is at found in (
      (before.took.bytes, before.took.consumed, before.took.kept, tt),
      (
        before.some,
        whatever (λ t. IsFault t c.in-Err.fault) c.head.buffer.items (g.R.Read.remaining c.head.input)
            fault,
        inr (holds_little (length c.args.buffer.now.items) c.head.seen c.head.buffer.items before.none before.shown
            before.short before.few),
      ),
      tt,
    )

pub returns-in-Ok-Complete : goal.returns-in-Ok-Complete
returns-in-Ok-Complete g c =
    let before = c.head.invariant in
    let found = rw c.deref.ensures.value at c.look_again-has_begun.ensures.found in
    let complete : c.in-Ok-Complete.field-0 ≡ Complete c.in-Ok-Complete.head =
    rw c.in-Ok-Complete.is at c.in-Ok-Complete.field-0-is in
    let whole = subst (λ s. LookFinds c.head.buffer.items (Ok s)) complete (rw c.in-Ok-Complete.is at found) in
    let beyond = beyond_seen c.head.buffer.items c.in-Ok-Complete.head whole.0 c.head.seen whole.1 before.none in (
      (before.took.bytes, before.took.consumed, before.took.kept, tt),
      (before.some, (whole.0, whole.1), omega (arith, before.few, beyond)),
      tt,
    )

pub returns-then-not-branch-2 : goal.returns-then-not-branch-2
returns-then-not-branch-2 g c =
    let before = c.head.invariant in
    let held = c.head.buffer.items in
    let found = rw c.deref.ensures.value at c.look_again-has_begun.ensures.found in
    let soon = rw c.deref.ensures.value at c.look_again-has_begun.ensures.soon in
    let partial : c.in-Ok-Partial.field-0 ≡ Partial = rw c.in-Ok-Partial.is at c.in-Ok-Partial.field-0-is in
    let looked = subst (λ s. LookFinds held (Ok s)) partial (rw c.in-Ok-Partial.is at found) in
    let shown =
    shown_next held c.head.seen (Ok c.in-Ok-Partial.field-0) before.shown (rw c.in-Ok-Partial.is at soon) (λ e. cc) in
    let none : c.read_more-in-head.result ≡ Ok false = cc in
    let read = c.read_more-in-head.ensures.consumed in
    let end = c.read_more-in-head.ensures.at_end none in
    let took = took_more _ _ _ _ _ _ read.0 before.took read.1 (rw none at read.2) in
    let all : take (length held) held ≡ held = take_all (length held) held (omega arith) in
    let little =
    holds_little (length c.args.buffer.now.items) (length held) held (subst HasNoRequest (sym all) looked.0)
    (subst ShowsNothing (sym all) shown) looked.1 (omega arith) in (
      (took.bytes, took.consumed, took.kept, tt),
      (
        omega (arith, before.some, ap length end.1),
        at_end_all (λ t. IsFault t BadHead) c.read_more-in-head.new.buffer.items _
            (no_head _ (subst HasNoRequest (sym end.1) looked.0)) end.0,
        inr (subst (HoldsLittle (length c.args.buffer.now.items)) (sym end.1) little),
      ),
      tt,
    )

pub head-preserved : goal.head-preserved
head-preserved g c =
    let before = c.head.invariant in
    let held = c.head.buffer.items in
    let found = rw c.deref.ensures.value at c.look_again-has_begun.ensures.found in
    let soon = rw c.deref.ensures.value at c.look_again-has_begun.ensures.soon in
    let begun = rw c.deref.ensures.value at c.look_again-has_begun.ensures.begun in
    let partial : c.in-Ok-Partial.field-0 ≡ Partial = rw c.in-Ok-Partial.is at c.in-Ok-Partial.field-0-is in
    let looked = subst (λ s. LookFinds held (Ok s)) partial (rw c.in-Ok-Partial.is at found) in
    let shown =
    shown_next held c.head.seen (Ok c.in-Ok-Partial.field-0) before.shown (rw c.in-Ok-Partial.is at soon) (λ e. cc) in
    let came : c.read_more-in-head.result ≡ Ok true = cc in
    let read = c.read_more-in-head.ensures.consumed in
    let kept = rw came at read.2 in
    let more = rw came at c.read_more-in-head.ensures.few in
    let len : c.len-seen.result ≡ length held = grind (arith, c.len-seen.ensures, c.head.buffer.ok.0) in
    let first : take c.len-seen.result c.read_more-in-head.new.buffer.items ≡ held =
    ap (λ k. take k c.read_more-in-head.new.buffer.items) len ∙ ap (take (length held)) kept
    ∙ take-append_seam held read.0 in
    record {
      took = took_more _ _ _ _ _ _ read.0 before.took read.1 kept;
      none = subst HasNoRequest (sym first) looked.0;
      shown = subst ShowsNothing (sym first) shown;
      begun = begun ∙ ap has_begun_in (sym first);
      within = omega (arith, len, ap length kept, length-append held read.0);
      some = omega (arith, before.some, ap length kept, length-append held read.0);
      short = omega (arith, len, looked.1);
      few = omega (arith, len, more);
    }

pub returns-in_err-read_more : goal.returns-in_err-read_more
returns-in_err-read_more g c =
    let read = c.in_err-read_more.ensures.consumed in
    let empty : c.args.buffer.now.items ≡ [] =
    nil_from_length _ (grind (arith, nat_tests, c.is_empty.ensures, c.if-is_empty.true, c.args.buffer.now.ok.0)) in
    let p = err_from_is_err_and c.from_residual.result c.from_residual.ensures.1 in
    rw (p.1, p.2) (
      (
        read.0,
        read.1,
        tt,
        λ failed.
            let none : c.args.buffer.now.items ++ read.0 ≡ [] = ap (λ t. t ++ read.0) empty ∙ read.3 failed in
            subst AwaitsMore (sym none) (inl (none_in_nothing, omega arith, none_shown_in_nothing)),
      ),
      tt,
      c.in_err-read_more.ensures.fault,
    )
