use Rattle.std.proofs.Common.{◌≡◌, ◌∙◌, ℕ, ap, length, subst, arith}
use Rattle.live.specs.Backward.{IsTurnedBy, chosen}
use Rattle.live.proofs.Turned.{turned_more, turned_none}
use Rattle.live.proofs.reversed_graph.turned.Goals as goal

pub loop-place-init : goal.loop-place-init
loop-place-init c = turned_none (chosen c.args.kinds) c.args.graph.now c.in_ok-into.into
    (c.in_ok-into.ensures.count ∙ ap length c.deref.ensures.value ∙ c.in_ok-room.ensures) c.in_ok-into.ensures.empty

pub loop-place-preserved : goal.loop-place-preserved
loop-place-preserved c =
    turned_more (chosen c.args.kinds) c.args.graph.now c.loop-place.place c.loop-place.into c.note_object.new.self
    c.loop-place.invariant c.in_ok-note_object.ensures

pub returns : goal.returns
returns c =
    let last : c.loop-place.place ≡ length c.args.graph.now =
    (let t = c.loop-place-test.false in let e = c.loop-place.auto.place-end in
    let n = c.len-place-end.ensures.value in omega arith) in
    subst (λ (k : ℕ). IsTurnedBy (chosen c.args.kinds) c.args.graph.now k c.loop-place.into) last c.loop-place.invariant
