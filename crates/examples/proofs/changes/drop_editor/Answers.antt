use Rattle.std.specs.Prelude.{codes}
use Rattle.tables.proofs.SoundRoots.{user_root_dropped}
use Rattle.examples.proofs.changes.drop_editor.Goals as goal

pub drop_root-requires : goal.drop_root-requires
drop_root-requires g c = λ w t. user_root_dropped c.args.tables.now.dir w t.sound (codes "ann") (codes "editor")
