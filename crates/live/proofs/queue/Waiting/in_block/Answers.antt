use Rattle.std.proofs.Common.{refl, subst, Bool, List}
use Rattle.live.specs.Listed.{NoneBetween}
use Rattle.live.proofs.Listings.{listed_consumed, listed_done}
use Rattle.live.proofs.queue.Waiting.in_block.Goals as goal

pub invariant_of-self : goal.invariant_of-self
invariant_of-self c =
    listed_consumed (record {
      waiting = c.self.inside.waiting.items;
      listed = c.self.inside.listed.items;
      blocks = c.self.inside.blocks.items;
      at = c.self.inside.at;
      end = c.self.inside.end;
    }) _ c.in-Some.place
    c.self.invariant
    c.in-Some.ensures.some.from c.in-Some.ensures.some.to
    (subst (λ (bs : List Bool). NoneBetween bs c.self.inside.at c.in-Some.place) c.deref.ensures.value
    c.in-Some.ensures.some.first) refl refl refl refl refl

pub invariant_of-self-in-None : goal.invariant_of-self-in-None
invariant_of-self-in-None c =
    listed_done (record {
      waiting = c.self.inside.waiting.items;
      listed = c.self.inside.listed.items;
      blocks = c.self.inside.blocks.items;
      at = c.self.inside.at;
      end = c.self.inside.end;
    }) _ c.self.invariant
    (subst (λ (bs : List Bool). NoneBetween bs c.self.inside.at c.self.inside.end) c.deref.ensures.value
    c.in-None.ensures.none) refl refl refl refl refl
