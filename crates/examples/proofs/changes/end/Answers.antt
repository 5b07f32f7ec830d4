use Rattle.std.specs.Prelude.{codes}
use Rattle.tables.proofs.SoundRoots.{session_ended}
use Rattle.examples.proofs.changes.end.Goals as goal

pub end_session-requires : goal.end_session-requires
end_session-requires g c = record { sound = λ w t. session_ended c.args.tables.now.dir w t.sound (codes "ann") 7 }
