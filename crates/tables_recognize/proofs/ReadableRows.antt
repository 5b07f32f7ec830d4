-- The texts of a table are UTF-8 if and only if those are that a query over all its rows shows.
use Rattle.std.proofs.Common.{◌≡◌, ◌↔◌, ℕ, zero, suc, ◌+◌, ◌<◌, List, [], ◌∷◌, ◌++◌, ◌&&◌, Bool, IsTrue, Result, Ok}
use Rattle.std.proofs.Common.{Err, IfOk, length, refl, sym, ap, subst, ◌∙◌, arith}
use Rattle.std.specs.List.{AllByRecursion}
use Rattle.sqlite_value.specs.declared.value.Value.{Value}
use Rattle.sqlite_value.specs.Order.{Row, column}
use Rattle.sqlite_rules.specs.Lists.{Has}
use Rattle.sqlite_rules.proofs.ListLemmas.{all_has, all_from}
use Rattle.sqlite_sql.specs.Query.{Query}
use Rattle.sqlite_sql.specs.Program.{overlay}
use Rattle.sqlite_schema.specs.declared.schema.Column.{Column}
use Rattle.sqlite_schema.specs.declared.command.Command.TheVariants.{Select}
use Rattle.sqlite.specs.State.{State, IsUnchanged}
use Rattle.tables_schema.specs.Forms.{strict}
use Rattle.tables_schema.specs.Intact.{IsIntact, tree_named}
use Rattle.tables_sql.specs.Contents.{rows_named}
use Rattle.tables_sql.specs.Texts.{IsReadable, IsReadableRow, AreReadableRows}
use Rattle.tables_sql.specs.Queries.{IsAnswered}
use Rattle.std.proofs.lemmas.Bool.{and_from}
use Rattle.tables_sql.proofs.Lists.{one_list, two_lists}
use Rattle.tables_sql.proofs.Truths.{and_so}
use Rattle.tables_sql.proofs.Scans.{IsScan, shows, scan_sound, scan_complete}
use Rattle.tables_sql.proofs.Statements.{answer_of, Compiles}
use Rattle.tables_sql.proofs.Writes.{overlay_low}

-- N columns of a row, from this one on
abbrev pub cells : ℕ → ℕ → Row → Row
cells at zero row = []
cells at (suc n) row = column row at ∷ cells (suc at) n row

-- each of these columns is readable
abbrev pub AreOfUtf8 : ℕ → Row → Type 0
AreOfUtf8 n row = (at : ℕ) → at < n → IsReadable (column row (at + 1))

cell_is : (at n : ℕ) (row : Row) (k : ℕ) → k < n → column (cells at n row) k ≡ column row (k + at)
cell_is at zero row k low = absurd (omega (arith, low))
cell_is at (suc n) row zero low = let next : at ≡ 0 + at = omega arith in ap (column row) next
cell_is at (suc n) row (suc k) low = let next : k + suc at ≡ suc k + at =
    omega arith in cell_is (suc at) n row k (omega (arith, low)) ∙ ap (column row) next

count : (at n : ℕ) (row : Row) → length (cells at n row) ≡ n
count at zero row = refl
count at (suc n) row = ap suc (count (suc at) n row)

pub all_cells : (n : ℕ) (row : Row) → IsReadableRow (cells 1 n row) ↔ AreOfUtf8 n row
all_cells n row = (
  λ h at low. subst IsReadable (cell_is 1 n row at low) (h at (subst (λ m. at < m) (sym (count 1 n row)) low)),
  λ h at low. let within =
      subst (λ m. at < m) (count 1 n row) low in subst IsReadable (sym (cell_is 1 n row at within)) (h at within),
)

-- a row is readable where its values after the first are, if that one is
pub behind : (v : Value) (row : Row) → IsReadable v → IsReadableRow (v ∷ row) ↔ IsReadableRow row
behind v row readable = (λ h at low. h (suc at) (omega (arith, low)), whole)
  where
    whole : IsReadableRow row → IsReadableRow (v ∷ row)
    whole h zero low = readable
    whole h (suc at) low = h at (omega (arith, low))

-- one row more
pub readable_more : (a b : Bool) (rows : List Row) (x : Row) → IsTrue a ↔ AllByRecursion IsReadableRow rows
    → IsTrue b ↔ IsReadableRow x → IsTrue (a && b) ↔ AllByRecursion IsReadableRow (rows ++ x ∷ [])
readable_more a b rows x all one = (
  λ yes. let both = and_so a b yes in two_lists IsReadableRow rows (x ∷ []) (all.0 both.0) (one.0 both.1, tt),
  λ every. let both = one_list IsReadableRow rows (x ∷ []) every in and_from a b (all.1 both.0) (one.1 both.1.0),
)

-- the rows that were shown, and whether their texts are UTF-8
abbrev pub Reports : List ℕ → State → State → Bool → Type 0
Reports text old new b =
    (rows : List Row) × IsAnswered text [] old new rows × (IsTrue b ↔ AllByRecursion IsReadableRow rows)

module _ (name : List ℕ) (columns : List Column) (key : List ℕ) (text : List ℕ) (names : List (List ℕ))
    (query : ℕ → Query) (scan : (tree : ℕ) → IsScan (query tree) tree) (whole : (tree : ℕ) → (query tree).filter ≡ [])
    {count : ℕ} (is : Compiles name columns key text count
    (λ at tree. Select (record { lets = []; body = query tree }) names)) where
  -- nothing changes, and the texts of the table are UTF-8 if and only if those are that were shown
  pub reported_if : (old new : State) → IsIntact old.now.schema (strict name columns key)
      → ((tree : ℕ) (r : Row) → Has (rows_named old.now name) r
      → IsReadableRow (shows (query tree) [] r) ↔ AreOfUtf8 (length columns) r)
      → (b : Bool) → Reports text old new b
      → IsUnchanged old new × (IsTrue b ↔ AreReadableRows (strict name columns key) (rows_named old.now name))
  reported_if old new exists each b h =
      let tree = tree_named old.now.schema name in
      let db = overlay old.now.trees [] in
      let same_rows : db tree ≡ old.now.trees tree = overlay_low old.now.trees tree exists.known.low in
      let answer = answer_of name columns key old new text [] query is exists h.0 h.1.0 in (
        h.1.1.1,
        (
          λ yes row at present low.
              (each tree row present).0 (all_has IsReadableRow h.0 _ (h.2.0 yes)
              (scan_complete (query tree) tree (scan tree) db [] h.0 answer row
              (subst (λ rows. Has rows row) (sym same_rows) present) (rw (whole tree) refl))) at low,
          λ all. h.2.1 (all_from IsReadableRow h.0 (λ x shown.
              let r = scan_sound (query tree) tree (scan tree) db [] h.0 answer x shown in
              let present = subst (λ rows. Has rows r.0) same_rows r.1 in
              subst IsReadableRow (sym r.3) ((each tree r.0 present).1 (λ at low. all r.0 at present low)))),
        ),
      )

-- what is so of each answer
pub if_ok : {T E : Type 0} (r : Result T E) (P Q : T → Type 0) → ((x : T) → P x → Q x) → IfOk r P → IfOk r Q
if_ok (Ok x) P Q f h = f x h
if_ok (Err e) P Q f h = tt
