use Rattle.std.proofs.Common.{ℕ, ◌<◌}
use Rattle.sqlite_value.specs.Order.{column}
use Rattle.tables_sql.specs.Texts.{IsReadable}
use Rattle.tables_recognize.proofs.texts.are_readable.Given as goal

abbrev pub invariant-loop-at : goal.invariant-loop-at
invariant-loop-at l = (k : ℕ) → k < l.at → IsReadable (column l.row k)
