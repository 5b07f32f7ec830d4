-- How far a write numbers on, and that a table with a free number isn't full.
use Rattle.std.proofs.Common.{◌≡◌, ◌≤◌, ℕ, ◌+◌, ◌-◌, ◌^◌, ℤ, pos, negsuc, ◌+ℤ◌, ◌≤ℤ◌, fold, List, [], ◌∷◌, Bool, false}
use Rattle.std.proofs.Common.{not, ◌⊎◌, Less, arith, inl, inr, refl, sym, ap, subst, subst₂, ◌∙◌, IsTrue}
use Rattle.std.specs.Prelude.{◌≢◌, filter}
use Rattle.std.specs.List.{AllByRecursion}
use Rattle.std.proofs.lemmas.Bool.{both_ways, cases_Bool, cases_eq, ltb-false}
use Rattle.std.proofs.lemmas.Int.{ints}
use Rattle.sqlite_value.specs.declared.value.Value.TheVariants.{Int}
use Rattle.sqlite_value.specs.Order.{Row, value_cmp}
use Rattle.sqlite_trees.specs.Tree.{rowid, IsTable, put_row, has_rowid, without_rowid}
use Rattle.sqlite_trees.specs.View.{is_int}
use Rattle.sqlite_trees.proofs.ListLemmas.{all_both, all_of, all_weaker, all-filter}
use Rattle.sqlite_trees.proofs.TreeLemmas.{all-put_row, IsTable-put_row}
use Rattle.sqlite_sql.specs.Ops.{fits_i64}
use Rattle.sqlite_schema.specs.declared.schema.Schema.{Schema}
use Rattle.sqlite_schema.specs.declared.schema.Table.{Table}
use Rattle.sqlite_rules.specs.declared.error.Rowids.TheVariants.{Chosen}
use Rattle.sqlite_rules.specs.Edit.{id_in, next_rowid, without_all}
use Rattle.sqlite_rules.proofs.ListLemmas.{all_has}
use Rattle.sqlite_rules.proofs.PlaceLemmas.{next_is_free}
use Rattle.sqlite.specs.Effect.{Database}
use Rattle.sqlite.specs.State.{State}
use Rattle.tables_schema.specs.Intact.{tree_named}
use Rattle.tables_sql.specs.Contents.{rows_named}
use Rattle.tables_sql.specs.Failures.{HasNoRowidLeft}
use Rattle.tables_sql.specs.Rowids.{IsNumbered, AreNumbered, AreUpTo, NumberOn, NumbersOn, IsShown, IsFullFor}
use Rattle.tables_sql.proofs.Writes.{SetsRows}

-- ---- the rowid after the last

-- it is none below 64 bits, and at most one above the greatest
next_between : (most : ℕ) (start : ℤ) (rows : List Row) → negsuc (2 ^ 63 - 1) ≤ℤ start → start ≤ℤ pos (most + 1)
    → AllByRecursion IsNumbered rows → AreUpTo most rows
    → (negsuc (2 ^ 63 - 1) ≤ℤ fold (λ (_ : ℤ) (r : Row). id_in (rowid r) +ℤ pos 1) start rows)
    × (fold (λ (_ : ℤ) (r : Row). id_in (rowid r) +ℤ pos 1) start rows ≤ℤ pos (most + 1))
next_between most start [] low high each up = (low, high)
next_between most start (r ∷ rows) low high each up =
    next_between most (id_in (rowid r) +ℤ pos 1) rows (omega (arith, ints, each.0.above)) (omega (arith, ints, up.0))
    each.1 up.1

next_bounds : (most : ℕ) (rows : List Row) → AllByRecursion IsNumbered rows → AreUpTo most rows
    → (negsuc (2 ^ 63 - 1) ≤ℤ next_rowid rows) × (next_rowid rows ≤ℤ pos (most + 1))
next_bounds most rows each up = next_between most (pos 1) rows (omega (arith, ints)) (omega (arith, ints)) each up

unfit_above : (most : ℕ) (z : ℤ) → fits_i64 z ≡ false → negsuc (2 ^ 63 - 1) ≤ℤ z → z ≤ℤ pos (most + 1)
    → 2 ^ 63 ≤ most + 1
unfit_above most (pos n) unfit low high = omega (arith, ints, ltb-false n (2 ^ 63) unfit, high)
unfit_above most (negsuc n) unfit low high = absurd (omega (arith, ints, ltb-false n (2 ^ 63) unfit, low))

are_ints : (rows : List Row) → AllByRecursion IsNumbered rows → AllByRecursion (λ r. IsTrue (is_int (rowid r))) rows
are_ints rows each = all_weaker IsNumbered (λ r. IsTrue (is_int (rowid r))) (λ r h. h.int) rows each

-- where no rowid is left for one more row, the table is full for one
pub full_for_one : (db : Database) (table : Table) → HasNoRowidLeft db table → IsFullFor 1 db table
unfolding HasNoRowidLeft
full_for_one db table (inl unfit) shown numbered most up =
    let rows = rows_named db table.name in
    let at = next_bounds most rows numbered.each up in
    unfit_above most (next_rowid rows) unfit at.0 at.1
full_for_one db table (inr taken) shown numbered most up =
    let rows = rows_named db table.name in
    absurd (both_ways _ (next_is_free Chosen rows [] numbered.rise (are_ints rows numbered.each)) taken)

-- ---- rows that a write leaves

-- the rowids of a list are up to some number
abbrev or_zero : ℤ → ℕ
or_zero (pos n) = n
or_zero (negsuc n) = 0

at_most : (z : ℤ) → z ≤ℤ pos (or_zero z)
at_most (pos n) = omega (arith, ints)
at_most (negsuc n) = omega (arith, ints)

some_bound : (rows : List Row) → (most : ℕ) × AreUpTo most rows
some_bound [] = (0, tt)
some_bound (r ∷ rows) =
    let later = some_bound rows in
    let own = or_zero (id_in (rowid r)) in
    let below = at_most (id_in (rowid r)) in (
      own + later.0,
      (
        omega (arith, ints, below),
        all_weaker (λ x. id_in (rowid x) ≤ℤ pos later.0) (λ x. id_in (rowid x) ≤ℤ pos (own + later.0))
            (λ x h. omega (arith, ints, h)) rows later.1,
      ),
    )

next_numbered : (rows : List Row) (row : Row) → rowid row ≡ Int (next_rowid rows) → AllByRecursion IsNumbered rows
    → IsNumbered row
next_numbered rows row is each =
    let bound = some_bound rows in
    record {
      int = ap is_int is;
      above = subst (λ v. negsuc (2 ^ 63 - 1) ≤ℤ id_in v) (sym is) (next_bounds bound.0 rows each bound.1).0;
    }

-- a row was put, with the rowid after the last
pub put_numbers_on : (rows : List Row) (row : Row) → rowid row ≡ Int (next_rowid rows)
    → NumberOn 1 rows (put_row row rows)
put_numbers_on rows row is = record {
  numbered =
      λ numbered. record {
        rise = IsTable-put_row row rows numbered.rise;
        each = all-put_row IsNumbered row rows (next_numbered rows row is numbered.each) numbered.each;
      };
  up_to = λ numbered most up.
      let at = next_bounds most rows numbered.each up in
      all-put_row (λ r. id_in (rowid r) ≤ℤ pos (most + 1)) row rows
      (subst (λ v. id_in v ≤ℤ pos (most + 1)) (sym is) at.1)
      (all_weaker (λ r. id_in (rowid r) ≤ℤ pos most) (λ r. id_in (rowid r) ≤ℤ pos (most + 1))
      (λ r h. omega (arith, ints, h)) rows up);
}

filter_rises : (p : Row → Bool) (rows : List Row) → IsTable rows → IsTable (filter p rows)
filter_rises p [] up = tt
filter_rises p (r ∷ rows) up = elim (cases_Bool (p r)) [
  | inl e ↦ rw e (all-filter (λ b. value_cmp (rowid r) (rowid b) ≡ Less) p rows up.0, filter_rises p rows up.1)
  | inr e ↦ rw e (filter_rises p rows up.1)
]

left_numbered : (ids : List ℤ) (rows : List Row) → AreNumbered rows → AreNumbered (without_all rows ids)
left_numbered [] rows h = h
left_numbered (i ∷ ids) rows h =
    left_numbered ids (without_rowid i rows)
    (record {
      rise = filter_rises (λ r. not (has_rowid i r)) rows h.rise;
      each = all-filter IsNumbered (λ r. not (has_rowid i r)) rows h.each;
    })

left_up_to : (most : ℕ) (ids : List ℤ) (rows : List Row) → AreUpTo most rows → AreUpTo most (without_all rows ids)
left_up_to most [] rows h = h
left_up_to most (i ∷ ids) rows h =
    left_up_to most ids (without_rowid i rows)
    (all-filter (λ r. id_in (rowid r) ≤ℤ pos most) (λ r. not (has_rowid i r)) rows h)

-- rows are gone
pub left_numbers_on : (ids : List ℤ) (rows : List Row) → NumberOn 0 rows (without_all rows ids)
left_numbers_on ids rows = record {
  numbered = left_numbered ids rows;
  up_to = λ numbered most up. subst (λ n. AreUpTo n (without_all rows ids)) (omega arith) (left_up_to most ids rows up);
}

-- no row changed
pub same_numbers_on : (n : ℕ) (old new : List Row) → new ≡ old → NumberOn n old new
same_numbers_on n old new is = record {
  numbered = subst AreNumbered (sym is);
  up_to =
      λ numbered most up. subst (AreUpTo (most + n)) (sym is)
      (all_weaker (λ r. id_in (rowid r) ≤ℤ pos most) (λ r. id_in (rowid r) ≤ℤ pos (most + n))
      (λ r h. omega (arith, ints, h)) old up);
}

-- no row is left
pub none_numbers_on : (n : ℕ) (old new : List Row) → new ≡ [] → NumberOn n old new
none_numbers_on n old new none = record {
  numbered = λ numbered. subst AreNumbered (sym none) (record { rise = tt; each = tt });
  up_to = λ numbered most up. subst (AreUpTo (most + n)) (sym none) tt;
}

-- ---- a database

-- a write to one tree
pub sets_numbers_on : (n : ℕ) (old new : State) (tree : ℕ) (rows : List Row) → NumberOn n (old.now.trees tree) rows
    → SetsRows old new tree rows → NumbersOn n old.now new.now
sets_numbers_on n old new tree rows own sets =
    all_weaker (λ t. t.tree ≢ tree → new.now.trees t.tree ≡ old.now.trees t.tree)
    (λ t. NumberOn n (old.now.trees t.tree) (new.now.trees t.tree)) (λ t other. each t other (cases_eq t.tree tree))
    old.now.schema.tables sets.others
  where
    each : (t : Table) → (t.tree ≢ tree → new.now.trees t.tree ≡ old.now.trees t.tree)
        → (t.tree ≡ tree) ⊎ (t.tree ≢ tree) → NumberOn n (old.now.trees t.tree) (new.now.trees t.tree)
    each t other (inl is) =
        subst (λ at. NumberOn n (old.now.trees at) (new.now.trees at)) (sym is)
        (subst (NumberOn n (old.now.trees tree)) (sym sets.rows_are) own)
    each t other (inr apart) = same_numbers_on n (old.now.trees t.tree) (new.now.trees t.tree) (other apart)

-- nothing was written
pub numbers_on_none : (db : Database) → NumbersOn 0 db db
numbers_on_none db =
    all_of (λ t. NumberOn 0 (db.trees t.tree) (db.trees t.tree))
    (λ t. same_numbers_on 0 (db.trees t.tree) (db.trees t.tree) refl) db.schema.tables

-- one write after another
both_number_on : (m n : ℕ) (a b c : List Row) → NumberOn m a b → NumberOn n b c → NumberOn (m + n) a c
both_number_on m n a b c h k = record {
  numbered = λ numbered. k.numbered (h.numbered numbered);
  up_to =
      λ numbered most up. subst (λ top. AreUpTo top c) (omega arith)
      (k.up_to (h.numbered numbered) (most + m) (h.up_to numbered most up));
}

pub numbers_on_then : (m n : ℕ) (a b c : Database) → b.schema ≡ a.schema → NumbersOn m a b → NumbersOn n b c
    → NumbersOn (m + n) a c
numbers_on_then m n a b c same h k =
    all_both (λ t. NumberOn m (a.trees t.tree) (b.trees t.tree)) (λ t. NumberOn n (b.trees t.tree) (c.trees t.tree))
    (λ t. NumberOn (m + n) (a.trees t.tree) (c.trees t.tree))
    (λ t p q. both_number_on m n (a.trees t.tree) (b.trees t.tree) (c.trees t.tree) p q)
    a.schema.tables h (subst (λ (s : Schema). AllByRecursion (λ t. NumberOn n (b.trees t.tree) (c.trees t.tree))
    s.tables) same k)

-- as far, and farther
pub numbers_on_more : (m n : ℕ) (a b : Database) → m ≤ n → NumbersOn m a b → NumbersOn n a b
numbers_on_more m n a b less h =
    all_weaker (λ t. NumberOn m (a.trees t.tree) (b.trees t.tree)) (λ t. NumberOn n (a.trees t.tree) (b.trees t.tree))
    (λ t k. record {
      numbered = k.numbered;
      up_to =
          λ numbered most up.
          all_weaker (λ r. id_in (rowid r) ≤ℤ pos (most + m)) (λ r. id_in (rowid r) ≤ℤ pos (most + n))
          (λ r low. omega (arith, ints, low, less)) (b.trees t.tree) (k.up_to numbered most up);
    }) a.schema.tables h

-- ---- tables that are full

pub fuller : (m n : ℕ) (db : Database) (table : Table) → m ≤ n → IsFullFor m db table → IsFullFor n db table
fuller m n db table less full shown numbered most up = let top = full shown numbered most up in omega (arith, top, less)

-- a table that is full for n rows after a write was full for those that were put and for n more
pub full_before : (m n : ℕ) (a b : Database) (table : Table) → b.schema ≡ a.schema → NumbersOn m a b
    → IsFullFor n b table → IsFullFor (m + n) a table
full_before m n a b table same on full shown numbered most up =
    let own = shown.0 in
    let its : NumberOn m (a.trees own.tree) (b.trees own.tree) =
    all_has (λ t. NumberOn m (a.trees t.tree) (b.trees t.tree)) a.schema.tables own on shown.1 in
    let name = table.name in
    let at : NumberOn m (rows_named a name) (rows_named b name) =
    subst₂ (λ x y. NumberOn m (a.trees x) (b.trees y)) shown.2
    (shown.2 ∙ ap (λ (s : Schema). tree_named s name) (sym same)) its in
    let there : IsShown b.schema table = subst (λ (s : Schema). IsShown s table) (sym same) shown in
    let top = full there (at.numbered numbered) (most + m) (at.up_to numbered most up) in
    omega (arith, top)
