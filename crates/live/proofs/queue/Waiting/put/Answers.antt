use Rattle.std.proofs.Common.{◌<◌, length, refl, subst, sym}
use Rattle.live.specs.Listed.{Waiting}
use Rattle.live.proofs.Listings.{block_inside, listed_more, listed_put}
use Rattle.live.proofs.queue.Waiting.put.Goals as goal

pub list-requires-clause-block : goal.list-requires-clause-block
list-requires-clause-block c =
    block_inside (record {
      waiting = c.self.inside.waiting.items;
      listed = c.self.inside.listed.items;
      blocks = c.self.inside.blocks.items;
      at = c.self.inside.at;
      end = c.self.inside.end;
    }) c.args.place
    c.self.invariant
    (subst (λ (w : Waiting). c.args.place < length w.waiting) (sym c.self.view_is) c.requires)

pub invariant_of-self : goal.invariant_of-self
invariant_of-self c =
    listed_more (record {
      waiting = c.self.inside.waiting.items;
      listed = c.self.inside.listed.items;
      blocks = c.self.inside.blocks.items;
      at = c.self.inside.at;
      end = c.self.inside.end;
    }) _ c.self.invariant
    refl refl refl c.list.ensures.more

pub invariant_of-self-2 : goal.invariant_of-self-2
invariant_of-self-2 c =
    listed_put (record {
      waiting = c.self.inside.waiting.items;
      listed = c.self.inside.listed.items;
      blocks = c.self.inside.blocks.items;
      at = c.self.inside.at;
      end = c.self.inside.end;
    }) _ c.args.place
    c.self.invariant refl refl refl
    c.in_ok-list.ensures.more c.in_ok-list.ensures.block
