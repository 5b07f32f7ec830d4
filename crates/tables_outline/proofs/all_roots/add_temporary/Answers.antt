use Rattle.std.proofs.Common.{map, string_bytes, refl, sym, ap, ◌∙◌}
use Rattle.paths.specs.Root as roots
use Rattle.model.specs.World.{temporary_root}
use Rattle.tables_outline.specs.Maps.{temporary_bytes}
use Rattle.tables_outline.specs.RootSet.{root_set}
use Rattle.tables_outline.proofs.RootOrder.{map-map, one_more, no_more}
use Rattle.tables_outline.proofs.all_roots.add_temporary.Goals as goal

pub loop-kept-init : goal.loop-kept-init
loop-kept-init c = λ q. refl

pub loop-kept-preserved : goal.loop-kept-preserved
loop-kept-preserved c =
    one_more (λ e. temporary_root (temporary_bytes e)) (root_set c.args.roots.now.keys)
    (map (λ e. temporary_root (temporary_bytes e)) c.into_iter-kept-iterator.result)
    (root_set c.loop-kept.roots.keys) (root_set c.add.new.roots.keys)
    c.loop-kept.kept-iterator c.next.new.self c.in-Some.kept.now
    (record { kind = roots.temporary; target = c.in-Some.kept.now.2; label = string_bytes c.in_ok-label.label })
    (λ i. record { kind = roots.temporary; target = c.in-Some.kept.now.2; label = c.in_ok-label.ensures i })
    c.in-Some.ensures.steps c.in_ok-add.ensures c.loop-kept.invariant

pub returns : goal.returns
returns c =
    no_more (map (λ e. temporary_root (temporary_bytes e))) refl (root_set c.args.roots.now.keys)
    (map (λ e. temporary_root (temporary_bytes e)) c.into_iter-kept-iterator.result) _
    (root_set c.loop-kept.roots.keys) c.loop-kept.kept-iterator c.in-None.ensures.steps.0
    (ap (map (λ e. temporary_root (temporary_bytes e)))
    (c.into_iter-kept-iterator.ensures.into_iter_gives ∙ c.iter-kept-items.ensures.rest)
    ∙ sym (map-map (temporary_bytes) (temporary_root) c.temporary_roots.result.now.keys)
    ∙ ap (map (temporary_root)) (c.temporary_roots.ensures))
    c.loop-kept.invariant
