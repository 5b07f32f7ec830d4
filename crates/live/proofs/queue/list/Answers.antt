use Rattle.std.proofs.Common.{refl, subst, sym, ℕ, List}
use Rattle.std.specs.Prelude.{Contains}
use Rattle.std.proofs.lemmas.List.{length-set}
use Rattle.std.proofs.lemmas.List.Elements.{Contains-append_left}
use Rattle.live.proofs.Listings.{lists_more}
use Rattle.live.proofs.queue.list.Goals as goal

pub returns-then-index-clause-more : goal.returns-then-index-clause-more
returns-then-index-clause-more c = record { count = refl; kept = λ b h. h; lists = c.requires.lists }

pub returns-clause-more : goal.returns-clause-more
returns-clause-more c = record {
  count = length-set c.args.listed.now.items c.args.block _;
  kept =
      λ b h. subst (λ (ks : List ℕ). Contains ks b) (sym c.in_ok-push.ensures.items)
      (Contains-append_left c.args.blocks.now.items _ b h);
  lists =
      lists_more c.args.listed.now.items c.args.blocks.now.items _ c.args.block c.requires.lists
      c.in_ok-push.ensures.items;
}
