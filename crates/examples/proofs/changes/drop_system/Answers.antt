use Rattle.std.specs.Prelude.{codes}
use Rattle.tables.proofs.SoundRoots.{permanent_dropped}
use Rattle.examples.proofs.changes.drop_system.Goals as goal

pub drop_root-requires : goal.drop_root-requires
drop_root-requires g c = λ w t. permanent_dropped c.args.tables.now.dir w t.sound (codes "system")
