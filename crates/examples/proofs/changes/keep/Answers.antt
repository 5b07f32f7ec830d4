use Rattle.std.proofs.Common.{refl, sym, ap, ◌∙◌}
use Rattle.std.specs.Prelude.{codes}
use Rattle.std.specs.FinMap as finite
use Rattle.tables.specs.Outline.{OutlineValue}
use Rattle.tables.proofs.SoundChanges.{valid_by_outline}
use Rattle.tables.proofs.SoundRoots.{temporary_added}
use Rattle.examples.proofs.changes.keep.Goals as goal

pub add_temp-requires : goal.add_temp-requires
add_temp-requires g c = record {
  sound =
      λ w t. temporary_added c.args.tables.now.dir w t.sound
      (record { owner = codes "ann"; session = 7; path = c.args.path.now }) refl refl
      (valid_by_outline g.S.Store c.args.tables.now w t c.args.path.now
      ∙ ap (λ (o : OutlineValue). finite.contains_key o.objects c.args.path.now) (sym c.outline.ensures)
      ∙ sym c.has.ensures ∙ c.if-not-has.false);
}
