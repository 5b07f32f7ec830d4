use Rattle.laws.proofs.DiskUse.{uses_disk}
use Rattle.laws.proofs.trust.the_disk_is_used_for_a_reason.Goals as goal

pub returns : goal.returns
returns c = uses_disk
