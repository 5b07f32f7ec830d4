use Rattle.std.proofs.Common.{◌+◌, ◌<◌, [], ◌∷◌, length, refl, sym, subst}
use Rattle.std.specs.List.{slice_set}
use Rattle.live.specs.Backward.{IsNoted, Reversed}
use Rattle.live.proofs.Turned.{laid_still, note_one}
use Rattle.live.proofs.reversed_graph.Reversed.note.Goals as goal

pub invariant_of-self : goal.invariant_of-self
invariant_of-self c =
    let old : Reversed = record { ranges = c.self.inside.ranges.items; sources = c.self.inside.sources.items } in
    let below = subst (λ (s : Reversed). c.args.target < length s.ranges) (sym c.self.view_is) c.requires in
    laid_still old _ c.args.target c.args.source c.index-range.result.now below c.self.invariant c.index-range.ensures
    c.if-range.false refl refl

pub returns : goal.returns
returns c =
    let old : Reversed = record { ranges = c.self.inside.ranges.items; sources = c.self.inside.sources.items } in
    let below = subst (λ (s : Reversed). c.args.target < length s.ranges) (sym c.self.view_is) c.requires in
    let new : Reversed = record {
      ranges =
          slice_set c.self.inside.ranges.items c.args.target
          (record {
            start = c.index-range.result.now.start;
            end = c.index-range.result.now.end + 1;
            limit = c.index-range.result.now.limit;
          });
      sources = slice_set c.self.inside.sources.items c.index-range.result.now.end c.args.source;
    } in
    subst (λ (s : Reversed). IsNoted s new c.args.source (c.args.target ∷ [])) c.self.view_is
    (note_one old new c.args.target c.args.source c.index-range.result.now below c.self.invariant c.index-range.ensures
    c.if-range.false refl refl)
