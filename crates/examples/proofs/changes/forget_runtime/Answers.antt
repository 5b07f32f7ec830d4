use Rattle.std.proofs.Common.{[], refl, sym, subst}
use Rattle.tables.specs.World.{pair_cmp}
use Rattle.tables.specs.Sound.{IsSound}
use Rattle.tables.specs.Effects.{with_runtime}
use Rattle.tables.specs.Maps.{labelled_bytes, seen_set}
use Rattle.tables.proofs.SoundRoots.{runtime_replaced}
use Rattle.examples.proofs.changes.forget_runtime.Goals as goal

pub replace_runtime-requires : goal.replace_runtime-requires
replace_runtime-requires g c = record {
  sound =
      λ w t. subst (λ keys. IsSound c.args.tables.now.dir (with_runtime w (seen_set pair_cmp labelled_bytes keys)))
      (sym c.new.ensures.empty) (runtime_replaced c.args.tables.now.dir w t.sound [] refl);
}
