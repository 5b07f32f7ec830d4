-- The texts of a table are UTF-8 after a write, where they were before it.
use Rattle.std.proofs.Common.{ℕ, zero, suc, ◌+◌, List, [], ◌∷◌, inl, inr, ℤ, sym, subst}
use Rattle.std.specs.List.{AllByRecursion}
use Rattle.sqlite_value.specs.Order.{Row, column}
use Rattle.sqlite_trees.specs.Tree.{put_row}
use Rattle.sqlite_schema.specs.declared.schema.Table.{Table}
use Rattle.sqlite_rules.specs.Edit.{without_all}
use Rattle.tables_sql.specs.Texts.{IsReadable, AreReadableRows}
use Rattle.sqlite_rules.proofs.TableLemmas.{put_has as from_put}
use Rattle.tables_sql.proofs.Members.{left_from}

column_readable : (row : Row) → AllByRecursion IsReadable row → (at : ℕ) → IsReadable (column row at)
column_readable [] h at = tt
column_readable (v ∷ row) h zero = h.0
column_readable (v ∷ row) h (suc at) = column_readable row h.1 at

-- with one row more
pub put_readable : (t : Table) (new : Row) (rows : List Row) → AllByRecursion IsReadable new → AreReadableRows t rows
    → AreReadableRows t (put_row new rows)
put_readable t new rows texts old row at present low = elim (from_put new rows row present) [
  | inl is ↦ subst (λ (r : Row). IsReadable (column r (at + 1))) (sym is) (column_readable new texts (at + 1))
  | inr was ↦ old row at was low
]

-- without some rows
pub left_readable : (t : Table) (ids : List ℤ) (rows : List Row) → AreReadableRows t rows
    → AreReadableRows t (without_all rows ids)
left_readable t ids rows old row at present low = old row at (left_from ids rows row present).0 low
