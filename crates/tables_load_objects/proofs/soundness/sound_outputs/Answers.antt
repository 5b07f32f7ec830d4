use Rattle.tables_load_objects.specs.Tested.{named_of}
use Rattle.tables_load_objects.proofs.OfArchive.{reported_of}
use Rattle.tables_load_objects.proofs.soundness.sound_outputs.Goals as goal

pub returns : goal.returns
returns c =
    reported_of c.args.dir.now c.args.path.now c.args.archive.now c.archive.inside.arrived.pieces c.archive.view_is
    c.archive.invariant.bytes c.requires c.recorded.result (named_of c.args.rows.now) c.recorded.ensures
