-- What the test of a table says by the text of its query.
use Rattle.std.proofs.Common.{◌↔◌, ℕ, List, [], Bool, IsTrue, refl, sym, subst, length}
use Rattle.std.specs.List.{AllByRecursion}
use Rattle.sqlite_value.specs.declared.value.Value.{Value}
use Rattle.sqlite_value.specs.Order.{Row}
use Rattle.sqlite_rules.specs.Lists.{Has}
use Rattle.sqlite_rules.proofs.TableLemmas.{int_is}
use Rattle.sqlite_schema.specs.declared.schema.Column.{Column}
use Rattle.sqlite_schema.specs.declared.schema.Table.{Table}
use Rattle.sqlite_trees.specs.Tree.{rowid}
use Rattle.sqlite_trees.specs.View.{is_int}
use Rattle.sqlite.specs.Effect.{Database, IsDatabase}
use Rattle.sqlite.specs.State.{State, IsUnchanged}
use Rattle.tables_schema.specs.Forms.{strict}
use Rattle.tables_schema.specs.Intact.{IsIntact}
use Rattle.tables_sql.specs.Contents.{rows_named}
use Rattle.tables_sql.specs.Texts.{IsReadable, IsReadableRow, AreReadableRows}
use Rattle.tables_sql.specs.Calls.{IsKeyed}
use Rattle.tables_sql.specs.Queries.{IsSelect, IsAnswered}
use Rattle.tables_sql.specs.Failures.{FailsToTest}
use Rattle.tables_sql.specs.declared.failure.Failed.{Failed}
use Rattle.tables_sql.proofs.Ordered.{Place, outputs_of, query_of}
use Rattle.tables_sql.proofs.Scans.{shows}
use Rattle.tables_recognize.specs.Opened.{ShowIds}
use Rattle.tables_recognize.proofs.Asking.{Asks}
use Rattle.tables_recognize.proofs.OwnRowids.{query, names, keyed_if}
use Rattle.tables_recognize.proofs.ReadableRows.{AreOfUtf8, behind, reported_if}
use Rattle.tables_recognize.proofs.RowidFailures.{FailsToCheck, check_fails}

-- the rows that were shown, whose first values are integers that differ, and whether their texts are UTF-8
abbrev pub ShowsTested : List ℕ → State → State → Bool → Type 0
ShowsTested text old new b =
    (rows : List Row) × IsAnswered text [] old new rows × ShowIds rows × (IsTrue b ↔ AllByRecursion IsReadableRow rows)

-- what the test of a table says by this text
pub record IsTest (t : Table) (text : List ℕ) : Type 1 where
  pub reads : IsSelect text
  pub reported : (old new : State) → IsDatabase old.now → IsIntact old.now.schema t → (b : Bool)
      → ShowsTested text old new b
      → IsUnchanged old new × IsKeyed (rows_named old.now t.name)
      × (IsTrue b ↔ AreReadableRows t (rows_named old.now t.name))
  pub failed : (old new : State) → (IsTrue old.is_open → IsIntact old.now.schema t) → (f : Failed)
      → FailsToCheck text old new f → FailsToTest old new (¬ IsKeyed (rows_named old.now t.name)) f

int_readable : (v : Value) → IsTrue (is_int v) → IsReadable v
int_readable v h = subst IsReadable (sym (int_is v h)) tt

-- these columns of a row
abbrev pub cells_of : List Place → Row → Row
cells_of cs r = shows (query_of (outputs_of cs) [] [] 0) [] r

-- the query means so: it shows texts that are UTF-8 where all of a row are
pub test_by : (name : List ℕ) (columns : List Column) (key : List ℕ) {text : List ℕ} (cs : List Place)
    → Asks name columns key text (names cs) (query cs)
    → ((db : Database) → IsDatabase db → IsIntact db.schema (strict name columns key) → (r : Row)
    → Has (rows_named db name) r → IsReadableRow (cells_of cs r) ↔ AreOfUtf8 (length columns) r)
    → IsTest (strict name columns key) text
test_by name columns key {text} cs of_rows each = record {
  reads = of_rows.reads;
  reported = λ old new sound exists b h.
      let keyed = keyed_if name columns key text cs old new exists of_rows.is (h.0, h.1, h.2) in
      let told =
      reported_if name columns key text (names cs) (query cs) of_rows.scan (λ tree. refl) of_rows.is old new exists
      (λ tree r present.
      let first = behind (rowid r) (cells_of cs r) (int_readable (rowid r) (keyed.1.ints r present)) in
      let rest = each old.now sound exists r present in
      (λ row. rest.0 (first.0 row), λ all. first.1 (rest.1 all)))
      b (h.0, h.1, h.3) in
      (keyed.0, keyed.1, told.1);
  failed = λ old new at. check_fails name columns key text cs old new at of_rows;
}
