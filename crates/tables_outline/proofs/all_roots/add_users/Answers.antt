use Rattle.std.proofs.Common.{map, string_bytes, refl, sym, ap, ap₂, ◌∙◌}
use Rattle.paths.specs.Root.{user_label}
use Rattle.paths.specs.Root as roots
use Rattle.model.specs.World.{user_root}
use Rattle.tables_outline.specs.Maps.{pair_bytes}
use Rattle.tables_outline.specs.RootSet.{root_set}
use Rattle.tables_outline.proofs.RootOrder.{map-map, one_more, no_more}
use Rattle.tables_outline.proofs.all_roots.add_users.Goals as goal

pub loop-owned-init : goal.loop-owned-init
loop-owned-init c = λ q. refl

pub loop-owned-preserved : goal.loop-owned-preserved
loop-owned-preserved c =
    one_more (λ e. user_root (pair_bytes e.0, e.1)) (root_set c.args.roots.now.keys)
    (map (λ e. user_root (pair_bytes e.0, e.1)) c.into_iter-owned-iterator.result)
    (root_set c.loop-owned.roots.keys) (root_set c.add.new.roots.keys)
    c.loop-owned.owned-iterator c.next.new.self (c.in-Some.owned.now, c.in-Some.path.now)
    (record { kind = roots.user; target = c.in-Some.path.now; label = string_bytes c.in_ok-label.label })
    (λ i. record {
      kind = roots.user;
      target = c.in-Some.path.now;
      label = (c.in_ok-label.ensures ∙ ap₂ user_label c.as_str-owner.ensures.value c.as_str-name.ensures.value) i;
    })
    c.in-Some.ensures.steps c.in_ok-add.ensures c.loop-owned.invariant

pub returns : goal.returns
returns c =
    no_more (map (λ e. user_root (pair_bytes e.0, e.1))) refl (root_set c.args.roots.now.keys)
    (map (λ e. user_root (pair_bytes e.0, e.1)) c.into_iter-owned-iterator.result) _
    (root_set c.loop-owned.roots.keys) c.loop-owned.owned-iterator c.in-None.ensures.steps.0
    (ap (map (λ e. user_root (pair_bytes e.0, e.1)))
    (c.into_iter-owned-iterator.ensures.into_iter_gives ∙ c.iter-owned-items.ensures.rest)
    ∙ sym (map-map (λ e. (pair_bytes e.0, e.1)) (user_root) c.user_roots.result.now.entries)
    ∙ ap (map (user_root)) (c.user_roots.ensures))
    c.loop-owned.invariant
