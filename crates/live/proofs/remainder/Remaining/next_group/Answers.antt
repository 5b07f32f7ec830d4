use Rattle.live.proofs.Reachings.{from_unreferred, from_none, from_referrers}
use Rattle.live.proofs.remainder.Remaining.next_group.Goals as goal

pub returns-in-Some-clause-group : goal.returns-in-Some-clause-group
returns-in-Some-clause-group c sizes rows is_dead size stands =
    from_unreferred c.args.graph.now c.args.self.now c.next_unreferred.new.self c.next_unreferred.ensures.same.dead
    c.next_unreferred.ensures.same.left c.next_unreferred.ensures.same.remaining sizes rows is_dead size stands
    c.in-Some.place c.in-Some.ensures.some c.in_ok-vec.field-0 c.in_ok-vec.ensures.items

pub returns-in_ok-reaching-in-Some-least_dead-clause-group : goal.returns-in_ok-reaching-in-Some-least_dead-clause-group
returns-in_ok-reaching-in-Some-least_dead-clause-group c sizes rows is_dead size stands =
    from_referrers c.args.graph.now c.args.self.now c.next_unreferred.new.self c.next_unreferred.ensures.same.dead
    c.next_unreferred.ensures.same.left c.next_unreferred.ensures.same.remaining sizes rows is_dead size stands
    c.in-Some-least_dead.place c.in_default.ensures.none c.in-Some-least_dead.ensures.some
    c.in_ok-reaching-in-Some-least_dead.field-0 c.in_ok-reaching-in-Some-least_dead.ensures.reaching

pub returns-in-None-clause-group : goal.returns-in-None-clause-group
returns-in-None-clause-group c sizes rows is_dead size stands =
    from_none c.args.graph.now c.args.self.now c.next_unreferred.new.self c.next_unreferred.ensures.same.dead
    c.next_unreferred.ensures.same.left c.next_unreferred.ensures.same.remaining sizes rows is_dead size stands
    c.in_default.ensures.none c.in-None.ensures.none
