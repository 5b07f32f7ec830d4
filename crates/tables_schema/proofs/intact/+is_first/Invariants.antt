use Rattle.std.proofs.Common.{length}
use Rattle.tables_schema.proofs.intact.+is_first.Given as goal

abbrev pub decreases-is_first : goal.decreases-is_first
decreases-is_first l = length l.tables.now
