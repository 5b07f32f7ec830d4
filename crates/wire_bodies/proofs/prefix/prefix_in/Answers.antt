use Rattle.std.proofs.Common.{drop, ap, sym, ◌∙◌}
use Rattle.wire_bodies.specs.Prefix.{place_after}
use Rattle.wire_bodies.proofs.Prefixes.{stays}
use Rattle.wire_bodies.proofs.prefix.prefix_in.Goals as goal

pub returns-in-AfterPrefix-clause-next_place : goal.returns-in-AfterPrefix-clause-next_place
returns-in-AfterPrefix-clause-next_place c =
    let left = drop c.loop-i.i c.args.piece.now in
    c.in-AfterPrefix.is ∙ sym (c.loop-i.invariant.next_place ∙ ap (λ p. place_after p left) c.in-AfterPrefix.is
    ∙ stays left)
