-- A query of all rows of a table, by its text, and why it fails.
use Rattle.std.proofs.Common.{ℕ, List, [], IsTrue}
use Rattle.std.specs.Prelude.{IsSome}
use Rattle.sqlite_sql.specs.Query.{Query}
use Rattle.sqlite_schema.specs.declared.schema.Column.{Column}
use Rattle.sqlite_schema.specs.declared.command.Command.TheVariants.{Select}
use Rattle.sqlite.specs.declared.error.Error.{Error}
use Rattle.sqlite.specs.State.{State, FailsToQuery}
use Rattle.tables_schema.specs.Forms.{strict}
use Rattle.tables_schema.specs.Intact.{IsIntact}
use Rattle.tables_sql.specs.Queries.{IsSelect}
use Rattle.tables_sql.specs.Failures.{failure_of, FailsWith}
use Rattle.tables_sql.proofs.Scans.{IsScan}
use Rattle.tables_sql.proofs.Statements.{Compiles}

-- an error of a query of this text is one of the disk, or of a limit on steps
abbrev pub QueryFails : List ℕ → State → State → Type 0
QueryFails text old new =
    (e : Error) → FailsToQuery text [] old new e → FailsWith old new ⊥ (IsSome old.step_limit) (failure_of e)

-- in any schema that has the table, the text is this query
pub record Asks (name : List ℕ) (columns : List Column) (key : List ℕ) (text : List ℕ) (names : List (List ℕ))
    (query : ℕ → Query) : Type 1 where
  pub scan : (tree : ℕ) → IsScan (query tree) tree
  pub is : Compiles name columns key text 0 (λ at tree. Select (record { lets = []; body = query tree }) names)
  pub reads : IsSelect text
  pub fails : (old new : State) → (IsTrue old.is_open → IsIntact old.now.schema (strict name columns key))
      → QueryFails text old new
