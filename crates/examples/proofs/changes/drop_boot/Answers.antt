use Rattle.std.specs.Prelude.{codes}
use Rattle.tables.proofs.SoundRoots.{permanent_dropped}
use Rattle.examples.proofs.changes.drop_boot.Goals as goal

pub drop_permanent-requires : goal.drop_permanent-requires
drop_permanent-requires g c = record { sound = λ w t. permanent_dropped c.args.tables.now.dir w t.sound (codes "boot") }
