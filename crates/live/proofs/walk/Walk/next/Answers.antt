use Rattle.std.proofs.Common.{◌∙◌, subst}
use Rattle.std.specs.Prelude.{IfNone, IfSome}
use Rattle.live.specs.Marks.{Frontier, IsDone, IsTaken}
use Rattle.live.proofs.Listings.{done, next_length, taken}
use Rattle.live.proofs.walk.Walk.next.Goals as goal

pub invariant_of-self : goal.invariant_of-self
invariant_of-self c =
    next_length c.next.result c.self.inside.waiting.waiting c.next.new.self.waiting c.next.ensures ∙ c.self.invariant

pub returns-clause-some : goal.returns-clause-some
returns-clause-some c =
    let new : Frontier = record { first = c.self.inside.first.items; waiting = c.next.new.self.waiting } in
    subst (λ (f : Frontier). IfSome c.next.result (IsTaken f new)) c.self.view_is
    (taken c.self.inside.first.items _ _ c.next.result c.next.ensures)

pub returns-clause-none : goal.returns-clause-none
returns-clause-none c =
    let new : Frontier = record { first = c.self.inside.first.items; waiting = c.next.new.self.waiting } in
    subst (λ (f : Frontier). IfNone c.next.result (IsDone f new)) c.self.view_is
    (done c.self.inside.first.items _ _ c.next.result c.next.ensures)
