-- The rows of an answer that can be read as entries of one kind, in order. Columns are counted from 0, and none is the
-- rowid.
use Rattle.std.specs.Prelude.{◌≡◌, ◌⊎◌, true, Bool, List, length, String, string_bytes, IsUtf8}
use Rattle.std.specs.List.{AllByRecursion, AllZip, AllAdjacentBelow}
use Rattle.std.specs.declared.alloc.Global.{Global}
use Rattle.sqlite_value.specs.declared.value.Value.{Value}
use Rattle.sqlite_value.specs.declared.value.Value.TheVariants.{Text}
use Rattle.sqlite_value.specs.Order.{Row, column}
use Rattle.tables_sql.specs.Contents.{Bytes}

-- a text that is UTF-8
abbrev pub IsLegible : Value → Type 0
IsLegible v = (t : Bytes) × (v ≡ Text t) × IsUtf8 t

-- a text alone
abbrev pub IsTextRow : Row → Type 0
IsTextRow row = (length row ≡ 1) × IsLegible (column row 0)

-- a text alone
abbrev pub ShowsText : Row → String Global → Type 0
ShowsText row e = column row 0 ≡ Text (string_bytes e)

-- some row can't be read as an entry, or the entries that the rows show don't rise
abbrev pub IsAmiss : {T : Type 0} → (Row → Type 0) → (Row → T → Type 0) → (T → T → Bool) → List Row → Type 0
IsAmiss {T} is_legible is_shown is_below rows =
    (¬ AllByRecursion is_legible rows)
    ⊎ ((all : List T) × AllZip is_shown rows all × (¬ AllAdjacentBelow (λ x y. true ≡ is_below x y) all (length all)))
