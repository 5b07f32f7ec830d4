use Rattle.std.proofs.Common.{refl}
use Rattle.std.specs.Prelude.{true}
use Rattle.tables.proofs.SoundChanges.{objects_kept}
use Rattle.examples.proofs.changes.remove_none.Goals as goal

pub remove_objects-requires : goal.remove_objects-requires
remove_objects-requires g c = record {
  sound =
      λ w t. objects_kept c.args.tables.now.dir w t.sound (λ p. true) (λ p o e k r h. refl) (λ n p e. refl)
      (λ n p e. refl) (λ n p e m q f. refl) (λ x h. refl) (λ k h. refl);
}
