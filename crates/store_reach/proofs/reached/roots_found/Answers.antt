use Rattle.std.proofs.Common.{Bool, Vec, Global, sym, ap, ◌∙◌}
use Rattle.paths.specs.Root.{Root}
use Rattle.live.specs.Arguments.{roots_view}
use Rattle.live.specs.Reaching.{reaches_any}
use Rattle.live.specs.declared.numbered.rows.Root.{Root as Handed}
use Rattle.store_reach.proofs.WalksBack.{root_found, root_missed}
use Rattle.store_reach.proofs.reached.roots_found.Goals as goal
use Rattle.store_reach.proofs.reached.roots_found.Goals.{then-is_found+in_ok-push, else-is_found}

pub loop-root-preserved : goal.loop-root-preserved
loop-root-preserved c = λ keep g named are found.
    let test : Root → Bool = λ r. reaches_any keep g named r.target in
    elim c.if-is_found.branch [
      | then-is_found+in_ok-push w ↦
          ap (λ (v : Vec Handed Global). roots_view v.items) w.found-is ∙ ap roots_view w.in_ok-push.ensures.items
          ∙ root_found test c.args.roots.now c.loop-root.root-index c.root-item.result c.loop-root-test.true
          c.root-item.is c.loop-root.found.items
          (c.loop-root.invariant keep g named are found) w.borrowed.result w.borrowed.ensures
          (sym (c.is_found.ensures keep g named are found) ∙ w.if-is_found.true)
      | else-is_found w ↦
          ap (λ (v : Vec Handed Global). roots_view v.items) w.found-is
          ∙ root_missed test c.args.roots.now c.loop-root.root-index c.root-item.result c.loop-root-test.true
          c.root-item.is c.loop-root.found.items
          (c.loop-root.invariant keep g named are found)
          (sym (c.is_found.ensures keep g named are found) ∙ w.if-is_found.false)
    ]
