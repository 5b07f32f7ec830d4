use Rattle.std.proofs.Common.{length}
use Rattle.tables_schema.proofs.presence.+is_unawaited.Given as goal

abbrev pub decreases-is_unawaited : goal.decreases-is_unawaited
decreases-is_unawaited l = length l.tables.now
