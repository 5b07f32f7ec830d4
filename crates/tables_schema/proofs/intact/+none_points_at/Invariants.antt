use Rattle.std.proofs.Common.{length}
use Rattle.tables_schema.proofs.intact.+none_points_at.Given as goal

abbrev pub decreases-none_points_at : goal.decreases-none_points_at
decreases-none_points_at l = length l.references.now
