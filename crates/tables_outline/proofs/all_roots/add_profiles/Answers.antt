use Rattle.std.proofs.Common.{refl, sym, ap, ◌∙◌}
use Rattle.std.specs.List.{flat_map}
use Rattle.model.specs.World.{generation_roots}
use Rattle.tables_outline.specs.View.{profile_view}
use Rattle.tables_outline.specs.Maps.{pair_bytes}
use Rattle.tables_outline.specs.RootSet.{root_set}
use Rattle.tables_outline.proofs.RootOrder.{flat-map, some_more, no_more}
use Rattle.tables_outline.proofs.all_roots.add_profiles.Goals as goal

pub loop-owned-init : goal.loop-owned-init
loop-owned-init c = λ q. refl

pub loop-owned-preserved : goal.loop-owned-preserved
loop-owned-preserved c =
    some_more (λ e. generation_roots (pair_bytes e.0, profile_view e.1)) (root_set c.args.roots.now.keys)
    (flat_map (λ e. generation_roots (pair_bytes e.0, profile_view e.1)) c.into_iter-owned-iterator.result)
    (root_set c.loop-owned.roots.keys) (root_set c.add_generations.new.roots.keys) c.loop-owned.owned-iterator
    c.next.new.self (c.in-Some.owned.now, c.in-Some.profile.now)
    c.in-Some.ensures.steps c.in_ok-add_generations.ensures c.loop-owned.invariant

pub returns : goal.returns
returns c =
    no_more (flat_map (λ e. generation_roots (pair_bytes e.0, profile_view e.1))) refl (root_set c.args.roots.now.keys)
    (flat_map (λ e. generation_roots (pair_bytes e.0, profile_view e.1)) c.into_iter-owned-iterator.result) _
    (root_set c.loop-owned.roots.keys) c.loop-owned.owned-iterator c.in-None.ensures.steps.0
    (ap (flat_map (λ e. generation_roots (pair_bytes e.0, profile_view e.1)))
    (c.into_iter-owned-iterator.ensures.into_iter_gives ∙ c.iter-owned-items.ensures.rest)
    ∙ sym (flat-map (λ e. (pair_bytes e.0, profile_view e.1)) generation_roots c.profiles.result.now.entries)
    ∙ ap (flat_map generation_roots) c.profiles.ensures)
    c.loop-owned.invariant
