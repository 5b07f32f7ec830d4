use Rattle.std.proofs.Common.{map, string_bytes, refl, sym, ap, ◌∙◌}
use Rattle.paths.specs.Root as roots
use Rattle.model.specs.World.{runtime_root}
use Rattle.tables_outline.specs.Maps.{labelled_bytes}
use Rattle.tables_outline.specs.RootSet.{root_set}
use Rattle.tables_outline.proofs.RootOrder.{map-map, one_more, no_more}
use Rattle.tables_outline.proofs.all_roots.add_runtime.Goals as goal

pub loop-pair-init : goal.loop-pair-init
loop-pair-init c = λ q. refl

pub loop-pair-preserved : goal.loop-pair-preserved
loop-pair-preserved c =
    one_more (λ e. runtime_root (labelled_bytes e)) (root_set c.args.roots.now.keys)
    (map (λ e. runtime_root (labelled_bytes e)) c.into_iter-pair-iterator.result) (root_set c.loop-pair.roots.keys)
    (root_set c.add.new.roots.keys)
    c.loop-pair.pair-iterator c.next.new.self c.in-Some.pair.now
    (record { kind = roots.runtime; target = c.in-Some.pair.now.1; label = string_bytes c.in_ok-clone.field-0 })
    (λ i. record { kind = roots.runtime; target = c.in-Some.pair.now.1; label = c.in_ok-clone.ensures.cases i })
    c.in-Some.ensures.steps c.in_ok-add.ensures c.loop-pair.invariant

pub returns : goal.returns
returns c =
    no_more (map (λ e. runtime_root (labelled_bytes e))) refl (root_set c.args.roots.now.keys)
    (map (λ e. runtime_root (labelled_bytes e)) c.into_iter-pair-iterator.result) _
    (root_set c.loop-pair.roots.keys) c.loop-pair.pair-iterator c.in-None.ensures.steps.0
    (ap (map (λ e. runtime_root (labelled_bytes e)))
    (c.into_iter-pair-iterator.ensures.into_iter_gives ∙ c.iter-pair-items.ensures.rest)
    ∙ sym (map-map (labelled_bytes) (runtime_root) c.runtime_roots.result.now.keys)
    ∙ ap (map (runtime_root)) (c.runtime_roots.ensures))
    c.loop-pair.invariant
