-- Whether the texts in the store's tables can be read. Another program may store a text that isn't UTF-8, in a STRICT
-- table too.
use Rattle.std.specs.Prelude.{◌≡◌, ℕ, ℤ, ◌+◌, ◌<◌, List, length, IsUtf8, IfSome, Some, ⊤}
use Rattle.std.specs.List.{AllByRecursion}
use Rattle.std.specs.FinMap as finite
use Rattle.sqlite_value.specs.declared.value.Value.{Value}
use Rattle.sqlite_value.specs.declared.value.Value.TheVariants.{Null, Int, Real, Text, Blob}
use Rattle.sqlite_value.specs.Order.{Row, column}
use Rattle.sqlite_schema.specs.declared.schema.Table.{Table}
use Rattle.sqlite_rules.specs.Lists.{Has}
use Rattle.sqlite.specs.Effect.{Database}
use Rattle.tables_schema.specs.Forms.{store_tables}
use Rattle.tables_sql.specs.Contents.{Bytes, Stored, Contents, rows_named}

-- each text in the store's tables is UTF-8
pub record AreReadable (c : Contents) : Type 0 where
  pub meta : (word value : Bytes) → finite.get c.meta word ≡ Some value → IsUtf8 word × IsUtf8 value
  pub objects : (base : Bytes) (o : Stored) → finite.get c.objects base ≡ Some o
      → IsUtf8 base × IfSome o.deriver IsUtf8 × IfSome o.ca IsUtf8
  pub refs : (base target : Bytes) → finite.get c.refs (base, target) ≡ Some tt → IsUtf8 base × IsUtf8 target
  pub outs : (base name target : Bytes) → finite.get c.outs (base, name) ≡ Some target
      → IsUtf8 base × IsUtf8 name × IsUtf8 target
  pub permanent : (name target : Bytes) → finite.get c.permanent name ≡ Some target → IsUtf8 name × IsUtf8 target
  pub user_roots : (owner name target : Bytes) → finite.get c.user_roots (owner, name) ≡ Some target
      → IsUtf8 owner × IsUtf8 name × IsUtf8 target
  pub profiles : (owner name : Bytes) (n : ℤ) → finite.get c.profiles (owner, name) ≡ Some n
      → IsUtf8 owner × IsUtf8 name
  pub generations : (owner name : Bytes) (n : ℤ) (target : Bytes)
      → finite.get c.generations (owner, name, n) ≡ Some target → IsUtf8 owner × IsUtf8 name × IsUtf8 target
  pub runtime : (label target : Bytes) → finite.get c.runtime (label, target) ≡ Some tt → IsUtf8 label × IsUtf8 target
  pub pieces : (base : Bytes) (n : ℤ) (piece : Bytes) → finite.get c.pieces (base, n) ≡ Some piece → IsUtf8 base
  pub temp_roots : (owner : Bytes) (n : ℤ) (target : Bytes) → finite.get c.temp_roots (owner, n, target) ≡ Some tt
      → IsUtf8 owner × IsUtf8 target

-- ---- readable texts of rows, as the program tests them

-- a value is no text, or a text that is UTF-8
abbrev pub IsReadable : Value → Type 0
IsReadable Null = ⊤
IsReadable (Int n) = ⊤
IsReadable (Real x) = ⊤
IsReadable (Text t) = IsUtf8 t
IsReadable (Blob b) = ⊤

-- each text in this row is UTF-8
abbrev pub IsReadableRow : Row → Type 0
IsReadableRow row = (at : ℕ) → at < length row → IsReadable (column row at)

-- each text in these rows is UTF-8, in each column of the table; the first value of a row is the rowid
abbrev pub AreReadableRows : Table → List Row → Type 0
AreReadableRows t rows = (row : Row) (at : ℕ) → Has rows row → at < length t.columns → IsReadable (column row (at + 1))

-- each text in the rows of the store's tables is UTF-8
unfoldable pub HasReadableRows : Database → Type 0
HasReadableRows db = AllByRecursion (λ t. AreReadableRows t (rows_named db t.name)) store_tables
