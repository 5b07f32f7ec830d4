use Rattle.std.specs.Prelude.{codes}
use Rattle.tables.proofs.SoundRoots.{user_root_dropped}
use Rattle.examples.proofs.changes.drop_shell.Goals as goal

pub drop_user_root-requires : goal.drop_user_root-requires
drop_user_root-requires g c =
    record { sound = λ w t. user_root_dropped c.args.tables.now.dir w t.sound (codes "ann") (codes "shell") }
