use Rattle.std.proofs.Common.{sym, ◌∙◌}
use Rattle.std.specs.Str.{bytes_eq}
use Rattle.wire_bodies.proofs.ValueLemmas.{none_so_far, some_key}
use Rattle.wire_bodies.proofs.entries.is_among.Goals as goal

pub loop-other-preserved : goal.loop-other-preserved
loop-other-preserved c =
    none_so_far c.args.keys.now c.loop-other.other-index _ c.loop-other-test.true (bytes_eq c.args.key.now)
    c.loop-other.invariant (sym c.eq.ensures ∙ c.if-eq.false)

pub returns-then-eq : goal.returns-then-eq
returns-then-eq c =
    sym (some_key c.args.keys.now c.loop-other.other-index _ c.loop-other-test.true (bytes_eq c.args.key.now)
    (sym c.eq.ensures ∙ c.if-eq.true))
