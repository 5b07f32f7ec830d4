use Rattle.tables_load_objects.specs.Tested.{targets_of}
use Rattle.tables_load_objects.proofs.Paths.{read_rise}
use Rattle.tables_load_objects.proofs.soundness.sound_object.Goals as goal

pub sound_archive-requires : goal.sound_archive-requires
sound_archive-requires c =
    read_rise (targets_of c.args.references.now) c.in_ok-refs.field-0 c.in-Some-4.refs c.in-Some-4.is
    c.in_ok-refs.ensures
