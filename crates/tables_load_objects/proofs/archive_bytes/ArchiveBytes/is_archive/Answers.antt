use Rattle.tables_load_objects.proofs.OfArchive.{archive_found}
use Rattle.tables_load_objects.proofs.archive_bytes.ArchiveBytes.is_archive.Goals as goal

pub returns : goal.returns
returns c =
    archive_found c.args.self.now c.self.inside.arrived c.self.view_is c.self.invariant c.is_none.result
    c.is_none.ensures
