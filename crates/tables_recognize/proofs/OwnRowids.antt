-- The rowids of a table, which a query shows first, are integers that differ, so each row has its own.
use Rattle.std.proofs.Common.{◌≡◌, ◌↔◌, ◌++◌, ap₂, IsSorted, inl, ℕ, suc, ℤ, List, [], ◌∷◌, map, flat_map, codes, true}
use Rattle.std.proofs.Common.{false, None, Option, Ok, refl, sym, ap, subst, subst₂, ◌∙◌, IsPermutation, length, Less}
use Rattle.std.proofs.Common.{slice_get}
use Rattle.std.specs.Prelude.{nat_lt, nat_le, ◌-◌, ◌^◌, option_and_then}
use Rattle.std.specs.List.{IsDistinct, AllAdjacentBelow}
use Rattle.std.specs.List.Sorted.{IsStrictlySortedBy}
use Rattle.std.specs.Ordering.{is_eq, eq_by_cmp, int_cmp}
use Rattle.std.specs.Cmp.{eq_by_cmp_equiv, int_cmp_total}
use Rattle.std.proofs.lemmas.Bool.{leb-false, lt-ltb}
use Rattle.std.proofs.lemmas.Map.Keys.{sorted_from_all_adjacent, IsDistinct-from_sorted, IsDistinct-IsPermutation}
use Rattle.std.proofs.lemmas.List.Sorted.{IsPermutation-map, IsPermutation-sym}
use Rattle.std.proofs.lemmas.Simd.{map-map}
use Rattle.sqlite_value.specs.declared.value.Value.{Value}
use Rattle.sqlite_value.specs.declared.value.Value.TheVariants.{Int}
use Rattle.sqlite_value.specs.declared.keys.Collation.{Collation}
use Rattle.sqlite_value.specs.Order.{Row, column}
use Rattle.sqlite_value.proofs.OrderLemmas.{value_cmp-Int}
use Rattle.sqlite_trees.specs.Tree.{Trees, rowid}
use Rattle.sqlite_trees.specs.View.{is_int}
use Rattle.sqlite_ast.specs.declared.Expr.{Expr, out-Expr}
use Rattle.sqlite_ast.specs.declared.Expr.TheOpen.{Expr-F, Shown-F}
use Rattle.sqlite_ast.specs.declared.Shown.{Shown, out-Shown}
use Rattle.sqlite_sql.specs.Term.{col}
use Rattle.sqlite_sql.specs.Query.{Query, IsAnswer, output, Output}
use Rattle.sqlite_sql.specs.Program.{overlay}
use Rattle.sqlite_schema.specs.declared.schema.Column.{Column}
use Rattle.sqlite_schema.specs.declared.command.Command.TheVariants.{Select}
use Rattle.sqlite_resolve.specs.declared.scope.Bound.{Bound}
use Rattle.sqlite_resolve.specs.declared.scope.Found.TheVariants as found_as
use Rattle.sqlite_resolve.specs.declared.scope.Output.{Output as Out}
use Rattle.sqlite_resolve.specs.Body.{shown, heading, is_column, declared}
use Rattle.sqlite_resolve.specs.Expr.{lower, lower_to, node, opened, passes}
use Rattle.sqlite_resolve.specs.Lowering.{spend, begin, finish}
use Rattle.sqlite_resolve.specs.Scope.{Name, Context, find as found_in, column as named_column, term_of}
use Rattle.sqlite_rules.specs.Lists.{Has}
use Rattle.sqlite_rules.proofs.ListLemmas.{has_right}
use Rattle.sqlite_rules.proofs.ProbeLemmas.{has_mapped, mapped_has}
use Rattle.sqlite.specs.State.{State, IsUnchanged}
use Rattle.sqlite.specs.Values.{IsInt}
use Rattle.tables_schema.specs.Forms.{strict}
use Rattle.tables_schema.specs.Intact.{IsIntact, tree_named}
use Rattle.tables_sql.specs.Contents.{rows_named}
use Rattle.tables_sql.specs.Calls.{IsKeyed}
use Rattle.tables_sql.specs.Queries.{IsAnswered}
use Rattle.tables_recognize.specs.Opened.{ShowIds}
use Rattle.tables_sql.proofs.Means.{plain_state}
use Rattle.tables_sql.proofs.Scans.{IsScan, shows, scan_complete, kept, listed}
use Rattle.tables_sql.proofs.Distinct.{tie, turned}
use Rattle.tables_sql.proofs.Ordered.{Place, outputs_of, query_of, scan_of, whole}
use Rattle.tables_sql.proofs.Rising.{rising, parted}
use Rattle.std.proofs.lemmas.List.{map-append}
use Rattle.tables_sql.proofs.Lists.{one_list}
use Rattle.tables_sql.proofs.Statements.{Compiles, answer_of}
use Rattle.tables_sql.proofs.Writes.{overlay_low}
use Rattle.sqlite_trees.proofs.ListLemmas.{all_weaker, all-map}

-- ---- what the text means

pub below : (n : ℕ) → nat_le (2 ^ 31) n ≡ false → nat_lt n (2 ^ 31) ≡ true
below n h = lt-ltb n (2 ^ 31) (leb-false (2 ^ 31) n h)

lower_to_rowid : (n : ℕ) (cx : Context) (e : Expr) (name : Name) (at : ℕ) (last : Option Collation) (budget : ℕ)
    → out-Expr e ≡ Expr-F.Column None name → found_in cx None name ≡ Ok (found_as.Rowid 1 at)
    → nat_lt 1 budget ≡ true → lower_to (suc n) cx e (plain_state budget last)
    ≡ Ok (col 1 0, plain_state (budget - 1) None)
unfolding lower_to node opened named_column term_of spend begin finish passes
lower_to_rowid n cx e name at last budget is known enough = rw (enough, is, known)

lower_rowid : (cx : Context) (e : Expr) (name : Name) (at : ℕ) (last : Option Collation) (budget : ℕ)
    → out-Expr e ≡ Expr-F.Column None name → found_in cx None name ≡ Ok (found_as.Rowid 1 at)
    → nat_lt 1 budget ≡ true → lower cx e (plain_state budget last) ≡ Ok (col 1 0, plain_state (budget - 1) None)
lower_rowid = lower_to_rowid 699

abbrev pub rowid_column : Out
rowid_column =
    record {
      name = codes "rowid";
      is_alias = false;
      is_column = true;
      term = col 1 0;
      carried = record { collation = None; is_written = false };
    }

-- an expression is the rowid of the table, which has no column of that name
pub record IsRowid (cx : Context) (e : Expr) (at : ℕ) : Type 0 where
  pub names : out-Expr e ≡ Expr-F.Column None (codes "rowid")
  pub found : found_in cx None (codes "rowid") ≡ Ok (found_as.Rowid 1 at)
  pub heading : declared cx.schema at (option_and_then (λ t. t.key) (slice_get cx.schema.tables at)) ≡ None

pub shown_rowid : (cx : Context) (tables : List Bound) (s : Shown) (e : Expr) (text : Name) (at : ℕ)
    (last : Option Collation) (budget : ℕ) → out-Shown s ≡ Shown-F.One e None text
    → IsRowid cx e at → nat_lt 1 budget ≡ true
    → shown lower cx tables [] s (plain_state budget last) ≡ Ok (rowid_column ∷ [], plain_state (budget - 1) None)
unfolding shown heading is_column
shown_rowid cx tables s e text at last budget is it enough =
    rw (is, lower_rowid cx e (codes "rowid") at last budget it.names it.found enough, it.names, it.found, it.heading)

-- ---- what the query shows

-- what shows the rowid and these columns of a table
abbrev pub results : List Place → List Out
results cs = rowid_column ∷ outputs_of cs

abbrev pub names : List Place → List Name
names cs = map (λ o. o.name) (results cs)

-- of each of its rows
abbrev pub query : List Place → ℕ → Query
query cs = query_of (results cs) [] []

abbrev pub scan : (cs : List Place) (tree : ℕ) → IsScan (query cs tree) tree
scan cs = scan_of (results cs) [] []

abbrev pub first : Row → Value
first row = column row 0

module _ (cs : List Place) (tree : ℕ) (db : Trees) (rows : List Row)
    (answer : IsAnswer (query cs tree) db [] rows) where
  -- the rowids that the query shows first are those of the table, in some order
  pub same_rowids : IsPermutation (map rowid (db tree)) (map first rows)
  same_rowids =
      let shown : map first rows ≡ map (λ (o : Output). first o.1) answer.ordered =
      ap (map first) (listed (query cs tree) tree (scan cs tree) db [] rows answer)
      ∙ map-map first (λ (o : Output). o.1) answer.ordered in
      let was : map (λ (o : Output). first o.1) answer.kept ≡ map rowid (db tree) =
      ap (map (λ (o : Output). first o.1)) (kept (query cs tree) tree (scan cs tree) db [] rows answer)
      ∙ each (db tree) in
      subst₂ IsPermutation was (sym shown)
      (IsPermutation-map (λ (o : Output). first o.1) answer.kept answer.ordered answer.same)
    where
      each : (all : List Row) → map (λ (o : Output). first o.1)
          (map (output (query cs tree)) (flat_map (λ (r : Row). ([] ∷ r ∷ []) ∷ []) all)) ≡ map rowid all
      each [] = refl
      each (r ∷ all) = ap (λ l. rowid r ∷ l) (each all)

distinct_ints : (ns : List ℤ) → IsDistinct (eq_by_cmp int_cmp) ns → IsDistinct tie (map Int ns)
unfolding IsDistinct
distinct_ints [] h = tt
distinct_ints (n ∷ ns) h = (
  all-map (λ v. tie (Int n) v ≡ false) Int ns
      (all_weaker (λ m. eq_by_cmp int_cmp n m ≡ false) (λ m. tie (Int n) (Int m) ≡ false)
      (λ m apart. ap is_eq (value_cmp-Int n m) ∙ apart) ns h.0),
  distinct_ints ns h.1,
)

int_of : (rows : List Row) (ns : List ℤ) → map first rows ≡ map Int ns → (x : Row) → Has rows x → IsInt (first x)
int_of rows ns e x present = let n =
    has_mapped Int ns (first x) (subst (λ vs. Has vs (first x)) e (mapped_has first rows x present)) in (n.0, n.2)

keyed_from : (cs : List Place) (tree : ℕ) (db : Trees) (rows : List Row) → IsAnswer (query cs tree) db [] rows
    → ShowIds rows → IsKeyed (db tree)
keyed_from cs tree db rows answer ids =
    let shown : IsDistinct tie (map first rows) = subst (IsDistinct tie) (sym ids.1) (distinct_ints ids.0 ids.2) in
    let own : IsDistinct tie (map rowid (db tree)) =
    IsDistinct-IsPermutation tie turned _ _ (IsPermutation-sym _ _ (same_rowids cs tree db rows answer)) shown in
    record {
      ints =
          λ a h. ap is_int (int_of rows ids.0 ids.1 (shows (query cs tree) [] a)
          (scan_complete (query cs tree) tree (scan cs tree) db [] rows answer a h refl)).1;
      distinct_rowids = own;
    }

-- the rows that were shown, whose first values are integers that differ
abbrev pub ShowsDistinct : List ℕ → State → State → Type 0
ShowsDistinct text old new = (rows : List Row) × IsAnswered text [] old new rows × ShowIds rows

-- each row of the table has a rowid of its own, and nothing changes
pub keyed_if : (name : List ℕ) (columns : List Column) (key : List ℕ) (text : List ℕ) (cs : List Place)
    (old new : State) → IsIntact old.now.schema (strict name columns key)
    → {count : ℕ} → Compiles name columns key text count (λ at tree. Select (whole (query cs) tree) (names cs))
    → ShowsDistinct text old new → IsUnchanged old new × IsKeyed (rows_named old.now name)
keyed_if name columns key text cs old new exists is h =
    let tree = tree_named old.now.schema name in
    let answer = answer_of name columns key old new text [] (query cs) is exists h.0 h.1.0 in (
      h.1.1.1,
      subst IsKeyed (overlay_low old.now.trees tree exists.known.low)
          (keyed_from cs tree (overlay old.now.trees []) h.0 answer h.2),
    )

-- ---- what a sort and a test of neighbours say of integers

ints_rise : (ns : List ℤ) → AllAdjacentBelow (λ x y. int_cmp x y ≡ Less) ns (length ns) → IsStrictlySortedBy int_cmp ns
unfolding IsStrictlySortedBy
ints_rise [] h = tt
ints_rise (n ∷ ns) h = sorted_from_all_adjacent int_cmp_total (n ∷ ns) n (λ k low. h k n low)

swapped : (a b : ℤ) → eq_by_cmp int_cmp a b ≡ eq_by_cmp int_cmp b a
swapped a b = (eq_by_cmp_equiv int_cmp_total).symm a b

-- integers differ if and only if they rise once they are sorted
pub rise_sorted : (ns sorted : List ℤ) → IsPermutation ns sorted → IsSorted int_cmp sorted
    → AllAdjacentBelow (λ x y. int_cmp x y ≡ Less) sorted (length sorted) ↔ IsDistinct (eq_by_cmp int_cmp) ns
rise_sorted ns sorted same up = (
  λ rise. IsDistinct-IsPermutation (eq_by_cmp int_cmp) swapped sorted ns (IsPermutation-sym ns sorted same)
      (IsDistinct-from_sorted int_cmp sorted (ints_rise sorted rise)),
  λ apart. rising int_cmp_total sorted up (IsDistinct-IsPermutation (eq_by_cmp int_cmp) swapped ns sorted same apart),
)

-- ---- one row more

pub ids_more : (rows : List Row) (x : Row) (ns : List ℤ) (n : ℤ) → map first rows ≡ map Int ns → first x ≡ Int n
    → map first (rows ++ x ∷ []) ≡ map Int (ns ++ n ∷ [])
ids_more rows x ns n h is =
    map-append first rows (x ∷ []) ∙ ap₂ (λ vs ws. vs ++ ws) h (ap (λ v. v ∷ []) is) ∙ sym (map-append Int ns (n ∷ []))

-- ---- what rows show that aren't integers, or not different ones

pub no_id : (rows : List Row) (x : Row) → ¬ IsInt (first x) → ¬ ShowIds (rows ++ x ∷ [])
no_id rows x none ids = none (int_of (rows ++ x ∷ []) ids.0 ids.1 x (has_right rows (x ∷ []) x (inl refl)))

same_ints : (ns ms : List ℤ) → ◌≡◌ {A = List Value} (map Int ns) (map Int ms) → ns ≡ ms
same_ints [] [] e = refl
same_ints [] (m ∷ ms) e = absurd cc
same_ints (n ∷ ns) [] e = absurd cc
same_ints (n ∷ ns) (m ∷ ms) e = let head : n ≡ m = cc in let rest : ◌≡◌ {A = List Value} (map Int ns) (map Int ms) =
    cc in ap₂ (λ x xs. x ∷ xs) head (same_ints ns ms rest)

pub differ_not : (rows : List Row) (ns : List ℤ) → map first rows ≡ map Int ns → ¬ IsDistinct (eq_by_cmp int_cmp) ns
    → ¬ ShowIds rows
differ_not rows ns shown same ids =
    same (subst (IsDistinct (eq_by_cmp int_cmp)) (same_ints ids.0 ns (sym ids.1 ∙ shown)) ids.2)

-- ---- the first rows of those that show integers that differ

prefix_distinct : (ns ms : List ℤ) → IsDistinct (eq_by_cmp int_cmp) (ns ++ ms) → IsDistinct (eq_by_cmp int_cmp) ns
unfolding IsDistinct
prefix_distinct [] ms h = tt
prefix_distinct (n ∷ ns) ms h = ((one_list (λ m. eq_by_cmp int_cmp n m ≡ false) ns ms h.0).0, prefix_distinct ns ms h.1)

pub prefix : (rows tail : List Row) → ShowIds (rows ++ tail) → ShowIds rows
prefix rows tail ids =
    let part = parted Int ids.0 (map first rows) (map first tail) (sym (map-append first rows tail) ∙ ids.1) in
    (part.0, part.3, prefix_distinct part.0 part.1 (subst (IsDistinct (eq_by_cmp int_cmp)) part.2 ids.2))
