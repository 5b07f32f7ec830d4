use Rattle.std.proofs.Common.{◌^◌, ◌-◌, ◌≤◌, arith, refl, subst, sym}
use Rattle.live.specs.Listed.{Waiting}
use Rattle.live.proofs.Listings.{listed_begun}
use Rattle.live.proofs.queue.Waiting.begin.Goals as goal

pub invariant_of-self-2 : goal.invariant_of-self-2
invariant_of-self-2 c =
    let done = subst (λ (w : Waiting). w.end ≤ w.at) (sym c.self.view_is) c.requires in
    listed_begun (record {
      waiting = c.self.inside.waiting.items;
      listed = c.self.inside.listed.items;
      blocks = c.self.inside.blocks.items;
      at = c.self.inside.at;
      end = c.self.inside.end;
    }) _ c.in-Some.block
    (2 ^ 64 - 1)
    c.self.invariant done c.in-Some.ensures.items refl
    c.strike.ensures.count c.strike.ensures.struck c.strike.ensures.others (omega (arith, c.self.inside.waiting.ok))
    (omega (arith, c.saturating_mul.ensures, c.min-self-inside.ensures, c.len-count.ensures))
    (omega (arith, c.saturating_add.ensures, c.min-self-inside-2.ensures, c.len-count.ensures))
