use Rattle.std.proofs.Common.{refl, sym, ap, ◌∙◌}
use Rattle.std.specs.Prelude.{codes}
use Rattle.std.specs.FinMap as finite
use Rattle.tables.specs.Outline.{OutlineValue}
use Rattle.tables.proofs.SoundChanges.{valid_by_outline}
use Rattle.tables.proofs.SoundRoots.{user_root_set}
use Rattle.examples.proofs.changes.put_shell.Goals as goal

pub put_user_root-requires : goal.put_user_root-requires
put_user_root-requires g c = record {
  sound =
      λ w t. user_root_set c.args.tables.now.dir w t.sound (codes "ann") (codes "shell") c.args.path.now refl
      (valid_by_outline g.S.Store c.args.tables.now w t c.args.path.now
      ∙ ap (λ (o : OutlineValue). finite.contains_key o.objects c.args.path.now) (sym c.outline.ensures)
      ∙ sym c.has.ensures ∙ c.if-not-has.false);
}
