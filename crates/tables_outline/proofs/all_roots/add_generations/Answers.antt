use Rattle.std.proofs.Common.{map, string_bytes, refl, sym, ap, ap₂, ◌∙◌}
use Rattle.std.specs.Cmp.{nat_cmp_total}
use Rattle.std.specs.Ordering.{nat_cmp}
use Rattle.std.specs.FinMap as finite
use Rattle.paths.specs.Root.{generation_label}
use Rattle.paths.specs.Root as roots
use Rattle.model.specs.World.{Path, generation_root}
use Rattle.tables_outline.specs.Maps.{pair_bytes}
use Rattle.tables_outline.proofs.Trees.{listed}
use Rattle.tables_outline.specs.RootSet.{root_set}
use Rattle.tables_outline.proofs.RootOrder.{map-map, one_more, no_more}
use Rattle.tables_outline.proofs.all_roots.add_generations.Goals as goal

pub loop-number-init : goal.loop-number-init
loop-number-init c = λ q. refl

pub loop-number-preserved : goal.loop-number-preserved
loop-number-preserved c =
    one_more (λ e. generation_root (pair_bytes c.args.owned.now) (e.0, e.1)) (root_set c.args.roots.now.keys)
    (map (λ e. generation_root (pair_bytes c.args.owned.now) (e.0, e.1)) c.into_iter-number-iterator.result)
    (root_set c.loop-number.roots.keys) (root_set c.add.new.roots.keys)
    c.loop-number.number-iterator c.next.new.self (c.in-Some.number.now, c.in-Some.path.now)
    (record { kind = roots.profile; target = c.in-Some.path.now; label = string_bytes c.in_ok-label.label })
    (λ i. record {
      kind = roots.profile;
      target = c.in-Some.path.now;
      label = (c.in_ok-label.ensures
          ∙ ap₂ (λ a b. generation_label a b c.in-Some.number.now) c.as_str-owner.ensures.value
          c.as_str-name.ensures.value) i;
    })
    c.in-Some.ensures.steps c.in_ok-add.ensures c.loop-number.invariant

pub returns : goal.returns
returns c =
    no_more (map (λ e. generation_root (pair_bytes c.args.owned.now) (e.0, e.1))) refl (root_set c.args.roots.now.keys)
    (map (λ e. generation_root (pair_bytes c.args.owned.now) (e.0, e.1)) c.into_iter-number-iterator.result) _
    (root_set c.loop-number.roots.keys) c.loop-number.number-iterator c.in-None.ensures.steps.0
    (ap (map (λ e. generation_root (pair_bytes c.args.owned.now) (e.0, e.1)))
    (c.into_iter-number-iterator.ensures.into_iter_gives ∙ c.iter-number-items.ensures.rest)
    ∙ sym (map-map (λ e. (e.0, e.1)) (generation_root (pair_bytes c.args.owned.now))
    c.args.profile.now.generations.entries)
    ∙ ap (map (generation_root (pair_bytes c.args.owned.now)))
    (sym (listed nat_cmp (λ n. n) (λ (t : Path). t) nat_cmp_total finite.nat_cmp-IsAntisymmetric
    c.args.profile.now.generations.entries c.iter-number-items.ensures.ordered)))
    c.loop-number.invariant
