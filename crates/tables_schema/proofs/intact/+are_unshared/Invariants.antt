use Rattle.std.proofs.Common.{length}
use Rattle.tables_schema.proofs.intact.+are_unshared.Given as goal

abbrev pub decreases-are_unshared : goal.decreases-are_unshared
decreases-are_unshared l = length l.tables.now
