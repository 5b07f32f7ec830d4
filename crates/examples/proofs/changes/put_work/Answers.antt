use Rattle.std.proofs.Common.{refl, sym, ap, ◌∙◌}
use Rattle.std.specs.Prelude.{codes}
use Rattle.std.specs.FinMap as finite
use Rattle.tables.specs.Outline.{OutlineValue}
use Rattle.tables.proofs.SoundChanges.{number_put, valid_by_outline}
use Rattle.examples.proofs.changes.put_work.Goals as goal

pub put_profile-requires-clause-sound : goal.put_profile-requires-clause-sound
put_profile-requires-clause-sound g c =
    λ w t. number_put c.args.tables.now.dir w t.sound (codes "ann") (codes "work") c.args.number c.args.path.now refl
    refl c.requires.least c.requires.most (valid_by_outline g.S.Store c.args.tables.now w t c.args.path.now
    ∙ ap (λ (o : OutlineValue). finite.contains_key o.objects c.args.path.now) (sym c.outline.ensures)
    ∙ sym c.has.ensures ∙ c.if-not-has.false)
