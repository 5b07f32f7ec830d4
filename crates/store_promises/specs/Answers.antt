-- The answer to a write.
use Rattle.std.specs.Prelude.{Result, Ok, Err}
use Rattle.tables_sql.specs.declared.failure.Failed.{Failed}
use Rattle.store_types.specs.declared.replies.Answer.{Answer}
use Rattle.store_types.specs.declared.replies.Stop.{Stop}
use Rattle.store_types.specs.declared.replies.Stop.TheVariants.{Failed as failed}

-- the answer if the write was done, else its failure
abbrev pub answered : Result (Unit {0}) Failed → Answer → Result Answer Stop
answered (Ok u) a = Ok a
answered (Err f) a = Err (failed f)
