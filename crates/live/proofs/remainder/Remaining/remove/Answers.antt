use Rattle.std.proofs.Common.{◌∙◌, ◌<◌, ◌==◌, ap, arith, false, length, refl, sym, subst, true, Bool, List}
use Rattle.live.specs.Remainder.{Deletes, IsRemaining, Remaining, is_in, nothing_owed}
use Rattle.live.proofs.Removals.{goes, left_none, left_one}
use Rattle.live.proofs.Ranges.{read_is}
use Rattle.live.proofs.remainder.Remaining.remove.Goals as goal

pub forget-requires : goal.forget-requires
forget-requires c =
    let r = subst (IsRemaining c.args.graph.now nothing_owed) (sym c.self.view_is) c.requires.remaining in
    record {
      place = c.requires.place;
      remaining =
          goes c.args.graph.now (record {
            dead = c.self.inside.dead.items;
            left = c.self.inside.left.items;
            referrers = c.self.inside.referrers.items;
            ready = c.self.inside.ready.data.items;
          }) c.args.place
          c.requires.place r
          (read_is c.self.inside.left.items c.self.inside.left.items c.args.place c.index.result.now true
          (λ i. c.self.inside.left.items) (let p = r.places in let h = c.requires.place in omega arith)
          c.index.ensures c.if-not-index.false);
    }

pub returns-then-not-index : goal.returns-then-not-index
returns-then-not-index c =
    let same = ap (λ (s : Remaining). s.left) c.self.view_is in
    let inside : c.args.place < length c.self.inside.left.items =
    (let p = c.requires.remaining.places in let h = c.requires.place in let n = ap length same in omega arith) in
    let out =
    read_is c.args.self.now.left c.self.inside.left.items c.args.place c.index.result.now false same inside
    c.index.ensures c.if-not-index.true in
    record {
      dead = refl;
      left = λ i h. left_none c.args.graph.now c.args.self.now c.args.place c.requires.place out i;
      remaining = c.requires.remaining;
    }

pub returns : goal.returns
returns c =
    let s : Remaining =
    record {
      dead = c.self.inside.dead.items;
      left = c.self.inside.left.items;
      referrers = c.self.inside.referrers.items;
      ready = c.self.inside.ready.data.items;
    } in
    let places = (subst (IsRemaining c.args.graph.now nothing_owed) (sym c.self.view_is) c.requires.remaining).places in
    subst (λ (x : Remaining). Deletes c.args.graph.now (λ i. c.args.place == i) x c.forget.new.self) c.self.view_is
    (record {
      dead = c.in_ok-forget.ensures.dead;
      left =
          λ i h. ap (λ (bs : List Bool). is_in bs i) c.in_ok-forget.ensures.left
          ∙ left_one c.args.graph.now s c.args.place c.requires.place places i;
      remaining = c.in_ok-forget.ensures.remaining;
    })
