use Rattle.std.proofs.Common.{length}
use Rattle.tables_schema.proofs.presence.+none_awaits.Given as goal

abbrev pub decreases-none_awaits : goal.decreases-none_awaits
decreases-none_awaits l = length l.references.now
