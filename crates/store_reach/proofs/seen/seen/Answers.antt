use Rattle.std.proofs.Common.{rules, arith, ◌≡◌, suc, ◌+◌, ◌<◌, length, map, take, [], ◌∷◌, ◌++◌, sym, ap, ◌∙◌}
use Rattle.std.proofs.Math.Seq.{take-suc}
use Rattle.model.specs.World.{pair_cmp}
use Rattle.live.specs.Arguments.{root_view, roots_view}
use Rattle.tables_outline.specs.Maps.{labelled_bytes}
use Rattle.model.specs.Seen.{seen}
use Rattle.tables_outline.specs.Gaining.{has_tied}
use Rattle.tables_outline.proofs.Loops.{map-append}
use Rattle.store_reach.proofs.seen.seen.Goals as goal

pub loop-root-init : goal.loop-root-init
loop-root-init c = (
  search rules,
  λ t q. ap (λ ks. has_tied pair_cmp q (map labelled_bytes ks)) c.new-reported.ensures.empty
      ∙ sym (ap (λ s. has_tied pair_cmp q (map labelled_bytes s)) c.new-shown.ensures.items),
)

pub loop-root-preserved : goal.loop-root-preserved
loop-root-preserved c =
    let shown =
    c.in_ok-show.ensures.shown (roots_view (take c.loop-root.root-index c.args.roots.now)) c.loop-root.invariant.1
    c.loop-root.invariant.0 in
    let less : c.loop-root.root-index < length c.args.roots.now = search rules in
    let next : suc c.loop-root.root-index ≡ c.loop-root.root-index + 1 = omega arith in
    let more =
    ap (λ r. take c.loop-root.root-index c.args.roots.now ++ r ∷ []) c.root-item.is
    ∙ sym (take-suc c.args.roots.now c.loop-root.root-index c.root-item.result less)
    ∙ ap (λ n. take n c.args.roots.now) next in (
      shown ∙ ap (seen c.args.class)
          (sym (map-append root_view (take c.loop-root.root-index c.args.roots.now) (c.root-item.result ∷ [])))
          ∙ ap (λ rs. seen c.args.class (roots_view rs)) more,
      c.in_ok-show.ensures.reported c.loop-root.invariant.1,
    )
