use Rattle.std.proofs.Common.{map, string_bytes, refl, sym, ap, ◌∙◌}
use Rattle.paths.specs.Root.{permanent_label}
use Rattle.paths.specs.Root as roots
use Rattle.model.specs.World.{permanent_root}
use Rattle.tables_outline.specs.RootSet.{root_set}
use Rattle.tables_outline.proofs.RootOrder.{map-map, one_more, no_more}
use Rattle.tables_outline.proofs.all_roots.add_permanent.Goals as goal

pub loop-name-init : goal.loop-name-init
loop-name-init c = λ q. refl

pub loop-name-preserved : goal.loop-name-preserved
loop-name-preserved c =
    one_more (λ e. permanent_root (string_bytes e.0, e.1)) (root_set c.args.roots.now.keys)
    (map (λ e. permanent_root (string_bytes e.0, e.1)) c.into_iter-name-iterator.result)
    (root_set c.loop-name.roots.keys) (root_set c.add.new.roots.keys)
    c.loop-name.name-iterator c.next.new.self (c.in-Some.name.now, c.in-Some.path.now)
    (record { kind = roots.permanent; target = c.in-Some.path.now; label = string_bytes c.in_ok-label.label })
    (λ i. record {
      kind = roots.permanent;
      target = c.in-Some.path.now;
      label = (c.in_ok-label.ensures ∙ ap permanent_label c.as_str.ensures.value) i;
    })
    c.in-Some.ensures.steps c.in_ok-add.ensures c.loop-name.invariant

pub returns : goal.returns
returns c =
    no_more (map (λ e. permanent_root (string_bytes e.0, e.1))) refl (root_set c.args.roots.now.keys)
    (map (λ e. permanent_root (string_bytes e.0, e.1)) c.into_iter-name-iterator.result) _
    (root_set c.loop-name.roots.keys) c.loop-name.name-iterator c.in-None.ensures.steps.0
    (ap (map (λ e. permanent_root (string_bytes e.0, e.1)))
    (c.into_iter-name-iterator.ensures.into_iter_gives ∙ c.iter-name-items.ensures.rest)
    ∙ sym (map-map (λ e. (string_bytes e.0, e.1)) (permanent_root) c.permanent_roots.result.now.entries)
    ∙ ap (map (permanent_root)) (c.permanent_roots.ensures))
    c.loop-name.invariant
