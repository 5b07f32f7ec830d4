-- What a text asks that is a query.
use Rattle.std.specs.Prelude.{◌≡◌, ℕ, [], List, Ok}
use Rattle.sqlite_value.specs.Order.{Row}
use Rattle.sqlite_ast.specs.declared.Select.{Select}
use Rattle.sqlite_ast.specs.declared.Statement.TheVariants as written
use Rattle.sqlite_syntax.specs.declared.statement.Parsed.{Parsed}
use Rattle.sqlite_resolve.specs.Scope.{Name}
use Rattle.sqlite_resolve.specs.Compile.{first}
use Rattle.sqlite.specs.State.{State, Shown, Begins, IsUnchanged}

abbrev pub parsed : List Name → (start end tail : ℕ) → Select → Parsed
parsed names start end tail select =
    record { statement = written.Select select; names = names; formats = []; start = start; end = end; tail = tail }

-- the text is a SELECT, whatever the schema
abbrev pub IsSelect : List ℕ → Type 0
IsSelect text =
    (names : List Name) × (start : ℕ) × (end : ℕ) × (tail : ℕ) × (select : Select)
    × (first text ≡ Ok (parsed names start end tail select))

-- The answer begins with these rows, and nothing changed: so far came a query that was then given up.
abbrev pub HasBegunWith : List ℕ → Row → State → State → List Row → Type 0
HasBegunWith text params old new rows = Begins text params old rows × IsUnchanged old new

-- The answer is these rows, and nothing changed; a failure after it is one after a query that has begun with them.
abbrev pub IsAnswered : List ℕ → Row → State → State → List Row → Type 0
IsAnswered text params old new rows = Shown text params old new rows × HasBegunWith text params old new rows
