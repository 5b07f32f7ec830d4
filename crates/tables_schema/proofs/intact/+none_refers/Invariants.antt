use Rattle.std.proofs.Common.{length}
use Rattle.tables_schema.proofs.intact.+none_refers.Given as goal

abbrev pub decreases-none_refers : goal.decreases-none_refers
decreases-none_refers l = length l.tables.now
