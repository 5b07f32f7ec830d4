use Rattle.std.proofs.Common.{ap, ◌∙◌}
use Rattle.sha2.specs.Sha256.{sha256}
use Rattle.tables_load_objects.proofs.archive_bytes.ArchiveBytes.digest.Goals as goal

pub returns : goal.returns
returns c = c.self.invariant.hash ∙ ap sha256 c.self.view_is
