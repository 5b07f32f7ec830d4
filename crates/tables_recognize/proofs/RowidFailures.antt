-- Why the test of a table's rowids fails: where they are integers that differ, only for the disk or a limit on steps.
use Rattle.std.proofs.Common.{◌≡◌, ◌⊎◌, inl, inr, ℕ, ℤ, List, [], ◌∷◌, ◌++◌, map, false, IsTrue, refl, sym, ap, ap₂}
use Rattle.std.proofs.Common.{subst, ◌∙◌}
use Rattle.std.specs.List.{IsDistinct}
use Rattle.std.specs.Ordering.{is_eq, eq_by_cmp, int_cmp}
use Rattle.std.proofs.lemmas.Map.Keys.{IsDistinct-IsPermutation}
use Rattle.sqlite_value.specs.declared.value.Value.TheVariants.{Int}
use Rattle.sqlite_value.specs.Order.{Row}
use Rattle.sqlite_value.proofs.OrderLemmas.{value_cmp-Int}
use Rattle.sqlite_trees.specs.Tree.{Trees}
use Rattle.sqlite_trees.specs.View.{is_int}
use Rattle.sqlite_rules.specs.Lists.{Has}
use Rattle.sqlite_rules.specs.Edit.{id_in}
use Rattle.sqlite_sql.specs.Query.{IsAnswer}
use Rattle.sqlite_sql.specs.Program.{overlay}
use Rattle.sqlite_schema.specs.declared.schema.Column.{Column}
use Rattle.sqlite_schema.specs.declared.command.Command.TheVariants.{Select}
use Rattle.sqlite.specs.State.{State, Shown as Answered}
use Rattle.tables_schema.specs.Forms.{strict}
use Rattle.tables_schema.specs.Intact.{IsIntact, tree_named}
use Rattle.tables_sql.specs.Contents.{rows_named}
use Rattle.tables_sql.specs.Calls.{IsKeyed}
use Rattle.tables_sql.specs.declared.failure.Failed.{Failed}
use Rattle.tables_sql.specs.declared.failure.Failed.TheVariants.{Memory, Disk}
use Rattle.tables_sql.specs.Failures.{IsQueryFailure, FailsToTest}
use Rattle.tables_sql.specs.Queries.{HasBegunWith}
use Rattle.tables_recognize.specs.Opened.{ShowIds}
use Rattle.tables_sql.proofs.Ordered.{Place, whole}
use Rattle.tables_sql.proofs.Scans.{scan_sound}
use Rattle.tables_sql.proofs.Distinct.{tie, turned}
use Rattle.sqlite_rules.proofs.TableLemmas.{int_is}
use Rattle.tables_sql.proofs.Statements.{answer_of, Compiles}
use Rattle.tables_sql.proofs.Writes.{overlay_low}
use Rattle.tables_sql.proofs.RowByRow.{whole as all_rows}
use Rattle.tables_sql.proofs.TestFailures.{test_fails}
use Rattle.tables_recognize.proofs.Asking.{Asks}
use Rattle.tables_recognize.proofs.OwnRowids.{query, names, scan, first, same_rowids, prefix}
use Rattle.sqlite_trees.proofs.ListLemmas.{all_weaker, all_from_map}

-- ---- what is shown of rowids that differ

abbrev ints_of : List Row → List ℤ
ints_of = map (λ (row : Row). id_in (first row))

ints_are : (rows : List Row) → ((x : Row) → Has rows x → IsTrue (is_int (first x)))
    → map first rows ≡ map Int (ints_of rows)
ints_are [] ints = refl
ints_are (r ∷ rows) ints =
    ap₂ (λ v vs. v ∷ vs) (int_is (first r) (ints r (inl refl))) (ints_are rows (λ x present. ints x (inr present)))

ints_distinct : (ns : List ℤ) → IsDistinct tie (map Int ns) → IsDistinct (eq_by_cmp int_cmp) ns
unfolding IsDistinct
ints_distinct [] h = tt
ints_distinct (n ∷ ns) h = (
  all_weaker (λ m. tie (Int n) (Int m) ≡ false) (λ m. eq_by_cmp int_cmp n m ≡ false)
      (λ m apart. sym (ap is_eq (value_cmp-Int n m)) ∙ apart) ns
      (all_from_map (λ v. tie (Int n) v ≡ false) Int ns h.0),
  ints_distinct ns h.1,
)

ids_from : (cs : List Place) (tree : ℕ) (db : Trees) (rows : List Row) → IsAnswer (query cs tree) db [] rows
    → IsKeyed (db tree) → ShowIds rows
ids_from cs tree db rows answer keyed =
    let ints =
    ints_are rows (λ x present. let r =
    scan_sound (query cs tree) tree (scan cs tree) db [] rows answer x present in
    subst (λ y. IsTrue (is_int (first y))) (sym r.3) (keyed.ints r.0 r.1)) in
    let shown : IsDistinct tie (map first rows) =
    IsDistinct-IsPermutation tie turned _ _ (same_rowids cs tree db rows answer) keyed.distinct_rowids in
    (ints_of rows, ints, ints_distinct (ints_of rows) (subst (IsDistinct tie) ints shown))

-- where each row has a rowid of its own, those are shown
pub ids_if : (name : List ℕ) (columns : List Column) (key : List ℕ) (text : List ℕ) (cs : List Place) (old new : State)
    → IsIntact old.now.schema (strict name columns key)
    → {count : ℕ} → Compiles name columns key text count (λ at tree. Select (whole (query cs) tree) (names cs))
    → (rows : List Row) → Answered text [] old new rows → IsKeyed (rows_named old.now name) → ShowIds rows
ids_if name columns key text cs old new exists is rows shown keyed =
    let tree = tree_named old.now.schema name in
    let answer = answer_of name columns key old new text [] (query cs) is exists rows shown in
    ids_from cs tree (overlay old.now.trees []) rows answer
    (subst IsKeyed (sym (overlay_low old.now.trees tree exists.known.low)) keyed)

-- ---- why the test fails

-- the query failed, or it was answered with what isn't integers that differ
abbrev pub FailsToCheck : List ℕ → State → State → Failed → Type 0
FailsToCheck text old new f =
    IsQueryFailure text [] old new f
    ⊎ ((rows : List Row) × HasBegunWith text [] old new rows × ((f ≡ Memory) ⊎ ((f ≡ Disk) × ¬ ShowIds rows)))

module _ (name : List ℕ) (columns : List Column) (key : List ℕ) (text : List ℕ) (cs : List Place) (old new : State)
    (at : IsTrue old.is_open → IsIntact old.now.schema (strict name columns key))
    (it : Asks name columns key text (names cs) (query cs)) where
  pub check_fails : (f : Failed) → FailsToCheck text old new f
      → FailsToTest old new (¬ IsKeyed (rows_named old.now name)) f
  check_fails f (inl h) = test_fails old new text _ (it.fails old new at) f h
  check_fails f (inr (rows, given, inl memory)) =
      subst (FailsToTest old new (¬ IsKeyed (rows_named old.now name))) (sym memory) tt
  check_fails f (inr (rows, given, inr h)) =
      let exists = at given.1.0.was_open in
      let tree = tree_named old.now.schema name in
      let all =
      all_rows text [] old new (names cs) (query cs tree) (it.is old.now.schema exists.at tree exists.known) rows
      given in
      subst (FailsToTest old new (¬ IsKeyed (rows_named old.now name))) (sym h.0)
      (inr (inr (λ keyed. h.1 (prefix rows all.0
      (ids_if name columns key text cs old new exists it.is (rows ++ all.0) all.1 keyed)))))
