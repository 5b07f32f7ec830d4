-- What the texts mean that read or remove a part of a table's rows: those whose first columns equal the parameters.
use Rattle.std.proofs.Common.{◌≡◌, ℕ, zero, suc, ◌+◌, ◌-◌, List, [], ◌∷◌, None, true, false, Bool, ◌&&◌, Ok, refl, sym}
use Rattle.std.proofs.Common.{ap, subst, ◌∙◌, length, map, take, ℤ, ◌/◌, drop}
use Rattle.std.specs.Prelude.{nat_lt, nat_le}
use Rattle.std.specs.Ordering.{eq_by_cmp, int_cmp}
use Rattle.std.specs.List.{AllByRecursion, list_all, position_from}
use Rattle.std.specs.FinMap as finite
use Rattle.sqlite_value.specs.declared.value.Value.{Value}
use Rattle.sqlite_value.specs.declared.value.Value.TheVariants.{Null, Int, Real, Text, Blob}
use Rattle.sqlite_value.specs.declared.keys.Collation.TheVariants.{Binary}
use Rattle.sqlite_value.specs.Keys.{plain}
use Rattle.sqlite_value.specs.Order.{Row, column, bytes}
use Rattle.sqlite_ast.specs.declared.Core.{Core, out-Core, roll-Core}
use Rattle.sqlite_ast.specs.declared.Expr.TheVariants as expr
use Rattle.sqlite_ast.specs.declared.Expr.TheViews.{out-roll-Core, out-roll-Select}
use Rattle.sqlite_ast.specs.declared.Origin.TheVariants as origin
use Rattle.sqlite_ast.specs.declared.Select.{Select as Written, out-Select, roll-Select}
use Rattle.sqlite_ast.specs.declared.Shown.{Shown}
use Rattle.sqlite_ast.specs.declared.Shown.TheVariants.{One}
use Rattle.sqlite_ast.specs.declared.Sort.{Sort, roll-Sort}
use Rattle.sqlite_ast.specs.declared.Source.{Source, roll-Source}
use Rattle.sqlite_ast.specs.declared.Statement.TheVariants as statement
use Rattle.sqlite_schema.specs.Names.{same_name}
use Rattle.sqlite_schema.specs.declared.command.Command.TheVariants.{Delete, Select}
use Rattle.sqlite_schema.specs.declared.schema.Column.{Column}
use Rattle.sqlite_schema.specs.declared.schema.Schema.{Schema}
use Rattle.sqlite_sql.specs.Ops.{binary as by_value, is_true}
use Rattle.sqlite_sql.specs.declared.ops.BinaryOp.TheVariants.{Compare}
use Rattle.sqlite_sql.specs.declared.ops.CompareOp.TheVariants.{Eq}
use Rattle.sqlite_sql.specs.Term.{Term, col, holds}
use Rattle.sqlite_rules.specs.Edit.{id_in, numbered, next_rowid}
use Rattle.sqlite_typing.specs.Types.{accepts_program, accepts_terms}
use Rattle.sqlite_tied.specs.Compute.{everything}
use Rattle.sqlite_draft.specs.declared.join.Step.TheVariants.{Inner}
use Rattle.sqlite_resolve.specs.Compile.{first}
use Rattle.sqlite_resolve.specs.Lowering.{max_budget}
use Rattle.sqlite_resolve.specs.Program.{program}
use Rattle.sqlite_resolve.specs.Scope.{Name}
use Rattle.sqlite_resolve.specs.Write.{simple}
use Rattle.sqlite_resolve.specs.declared.scope.Output.{Output}
use Rattle.sqlite_schema.specs.Rules.{agree, are_typed, are_present}
use Rattle.sqlite_rules.specs.Cast.{cast_row}
use Rattle.sqlite_rules.specs.declared.error.Rowids.TheVariants.{Chosen}
use Rattle.sqlite.specs.Rows.{stamped}
use Rattle.sqlite.specs.Effect.{value_rows}
use Rattle.tables_schema.specs.Forms.{strict}
use Rattle.tables_schema.specs.Intact.{IsKnown}
use Rattle.tables_sql.specs.Contents.{texts_cmp, rows_named}
use Rattle.tables_sql.specs.Queries.{IsSelect, parsed}
use Rattle.tables_sql.proofs.Means.{delete_means, plain_state}
use Rattle.tables_sql.proofs.Statements.{Compiles}
use Rattle.tables_sql.proofs.Truths.{and_so, and_one, both_tests, all_tests, text_test, int_test}
use Rattle.tables_sql.proofs.Writes.{rowids_where}
use Rattle.tables_sql.proofs.FreeKeys.{is_like, lacks}
use Rattle.tables_sql.proofs.Conditions.{are_firm, equals, condition, first_of_them, first_all, filter_by, left_by}
use Rattle.tables_sql.proofs.Conditions.{last_by, suffices_for, tested}
use Rattle.tables_sql.proofs.Ordered.{Place, IsColumn, IsOfOne, AreShown, AreSorts, AreAbove, outputs_of, query_on}
use Rattle.tables_sql.proofs.Ordered.{names_on, whole, draft, spent, last_of, selects}
use Rattle.tables_sql.proofs.Description.{Description, Part, PartReading, Selection, Removal, form, Addition, Inserts}
use Rattle.tables_sql.proofs.Description.{terms_of}

-- ---- as they are written

abbrev shown_as : Place → Shown
shown_as c = One (expr.Column None c.0) None c.0

abbrev sort_as : Place → Sort
sort_as c = roll-Sort (record { key = expr.Column None c.0; descending = false; nulls_first = None })

abbrev source_as : Name → Source
source_as name =
    roll-Source (record { is_left = false; origin = origin.Table name; alias = None; on = None; using = [] })

abbrev core_as : Name → List Place → ℕ → Core
core_as name shown m =
    roll-Core (record {
      distinct = false;
      shown = map shown_as shown;
      from = source_as name ∷ [];
      filter = condition (first_of_them shown m);
      group = [];
      having = None;
    })

-- the SELECT that shows these columns of a table, in the order of N, where N equal the parameters
abbrev pub select_as : Name → List Place → ℕ → ℕ → Written
select_as name shown n m =
    roll-Select (record {
      with = [];
      first = core_as name shown m;
      others = [];
      order = map sort_as (take n shown);
      limit = None;
      offset = None;
    })

-- the text is this SELECT, and nothing after it
abbrev pub IsSelectOf : Name → List Place → ℕ → ℕ → List ℕ → Type 0
IsSelectOf name shown n m text =
    (names : List Name) × (start : ℕ) × (end : ℕ) × (tail : ℕ)
    × (first text ≡ Ok (parsed names start end tail (select_as name shown n m)))
    × (nat_le (length text) tail ≡ true) × (length names ≡ m)

-- the text is the DELETE of the rows where N columns equal the parameters, and nothing after it
abbrev pub IsDeleteOf : Name → List Place → ℕ → List ℕ → Type 0
IsDeleteOf name cs m text =
    (names : List Name) × (start : ℕ) × (end : ℕ) × (tail : ℕ)
    × (first text ≡ Ok (record {
      statement = statement.Delete name (condition (first_of_them cs m)) [];
      names = names;
      formats = [];
      start = start;
      end = end;
      tail = tail;
    }))
    × (nat_le (length text) tail ≡ true) × (length names ≡ m)

shows_so : (cs : List Place) → AreShown (map shown_as cs) cs
unfolding everything
shows_so [] = tt
shows_so (c ∷ cs) = ((expr.Column None c.0, c.0, refl, refl), shows_so cs)

no_alias : (cs : List Place) (name : Name) (i : ℕ)
    → position_from (λ (o : Output). o.is_alias && same_name o.name name) i (outputs_of cs) ≡ None
no_alias [] name i = refl
no_alias (c ∷ cs) name i = no_alias cs name (i + 1)

sorts_so : (shown cs : List Place) → AreSorts (outputs_of shown) (map sort_as cs) cs
unfolding everything
sorts_so shown [] = tt
sorts_so shown (c ∷ cs) = (((no_alias shown c.0 0, refl, refl, refl), refl, refl), sorts_so shown cs)

module _ (name : Name) (cs : List Place) (n m : ℕ) where
  shown_is : (out-Core (out-Select (select_as name cs n m)).first).shown ≡ map shown_as cs
  shown_is = ap (λ s. (out-Core s.first).shown) (out-roll-Select _) ∙ ap (λ c. c.shown) (out-roll-Core _)

  filter_is : (out-Core (out-Select (select_as name cs n m)).first).filter ≡ condition (first_of_them cs m)
  filter_is = ap (λ s. (out-Core s.first).filter) (out-roll-Select _) ∙ ap (λ c. c.filter) (out-roll-Core _)

  is_of_one : IsOfOne name (select_as name cs n m) (source_as name)
  unfolding everything
  is_of_one = (refl, refl, refl, refl, refl, refl, refl, refl, refl, refl, refl, refl, refl, λ s. refl)

  order_is : (out-Select (select_as name cs n m)).order ≡ map sort_as (take n cs)
  order_is = ap (λ s. s.order) (out-roll-Select _)

-- ---- what they mean

-- N columns equal the parameters
abbrev pub of_first : List Place → ℕ → List Term
of_first cs m = filter_by (first_of_them cs m)

-- N of the budgets from this one on, each one less, are above 1
abbrev are_above : ℕ → ℕ → Bool
are_above zero budget = true
are_above (suc n) budget = nat_lt 1 budget && are_above n (budget - 1)

above_by : (n budget : ℕ) → are_above n budget ≡ true → AreAbove n budget
above_by zero budget h = tt
above_by (suc n) budget h = let b = and_so _ _ h in (b.0, above_by n (budget - 1) b.1)

-- such a SELECT stays within the resolver's limits
abbrev pub is_small : List Place → ℕ → ℕ → Bool
is_small shown n m = are_above (length shown) max_budget
    && (suffices_for (first_of_them shown m) (spent (length shown) max_budget)
    && are_above (length (take n shown)) (left_by (first_of_them shown m) (spent (length shown) max_budget)))

abbrev reads_of : (name : Name) (cs : List Place) (m : ℕ) (text : List ℕ) (n : ℕ) → IsSelectOf name cs n m text
    → IsSelect text
reads_of name cs m text n is = (is.0, is.1, is.2, is.3, select_as name cs n m, is.4)

module _ (name : Name) (columns : List Column) (key : List ℕ) (cs : List Place)
    (are : AllByRecursion (IsColumn name columns key) cs) (firm : are_firm columns ≡ true) (m : ℕ) (text : List ℕ) where
  abbrev compared : List Place
  compared = first_of_them cs m

  -- what is left of the budget once the columns are shown
  abbrev left : ℕ
  left = spent (length cs) max_budget

  pub selects_first : (n : ℕ) → IsSelectOf name cs n m text → is_small cs n m ≡ true
      → ((s : Schema) (at tree : ℕ) → IsKnown s name at (record (strict name columns key) { tree = tree })
      → program s [] (draft (query_on cs n (of_first cs m)) tree)
      ≡ Ok (whole (query_on cs n (of_first cs m)) tree))
      → Compiles name columns key text m (λ at tree. Select (whole (query_on cs n (of_first cs m)) tree) (names_on cs))
  selects_first n is small typed =
      let b = and_so _ _ small in
      let d = and_so _ _ b.1 in
      selects name columns key text cs n are (reads_of name cs m text n is) {source = source_as name}
      (is_of_one name cs n m)
      (subst (λ l. AreShown l cs) (sym (shown_is name cs n m)) (shows_so cs))
      (subst (λ l. AreSorts (outputs_of cs) l (take n cs)) (sym (order_is name cs n m)) (sorts_so cs (take n cs)))
      (of_first cs m) (last_by compared (last_of cs None)) (left_by compared left) (above_by (length cs) max_budget b.0)
      (above_by (length (take n cs)) (left_by compared left) d.1)
      (λ s at tree known. rw (filter_is name cs n m)
      (tested name columns key firm s at tree known.named.1 (outputs_of cs) compared
      (first_all (IsColumn name columns key) cs m are) (last_of cs None) left d.0))
      typed is.5 is.6

  pub deletes_first : IsDeleteOf name cs m text → suffices_for compared max_budget ≡ true
      → ((s : Schema) (at tree : ℕ) → IsKnown s name at (record (strict name columns key) { tree = tree })
      → program s [] (simple (Inner tree ∷ []) (of_first cs m) (col 1 0 ∷ []))
      ≡ Ok (record { lets = []; body = rowids_where tree (of_first cs m) }))
      → Compiles name columns key text m
      (λ at tree. Delete at (record { lets = []; body = rowids_where tree (of_first cs m) }))
  deletes_first is small typed s at tree known = (
    _,
    delete_means text is.4 s at name columns key tree (of_first cs m)
        (plain_state (left_by compared max_budget) (last_by compared None)) _ known.named
        (tested name columns key firm s at tree known.named.1 [] compared
        (first_all (IsColumn name columns key) cs m are) None max_budget small)
        (typed s at tree known),
    refl,
    refl,
    refl,
    is.5,
    is.6,
  )

-- ---- what their conditions say of a row

-- a value is this text or this number
abbrev pub is_same : Value → Value → Bool
is_same (Text t) v = eq_by_cmp texts_cmp (bytes v) t
is_same (Int n) v = eq_by_cmp int_cmp (id_in v) n
is_same _ v = false

-- the column of the key at this place equals the parameter there
abbrev at_first : ℕ → Term
at_first i = equals (col 1 (i + 1)) (col 0 i)

value_test : (p v : Value) → is_like p v ≡ true → is_true (by_value (Compare Eq Binary) v p) ≡ is_same p v
value_test Null v like = cc
value_test (Int n) v like = int_test v n like
value_test (Real x) v like = cc
value_test (Text t) v like = text_test v t like
value_test (Blob b) v like = cc

pub said_one : (p : Value) (r : Row) → is_like p (column r 1) ≡ true
    → list_all (holds ((p ∷ []) ∷ r ∷ [])) (at_first 0 ∷ []) ≡ is_same p (column r 1)
said_one p r like = and_one _ ∙ value_test p (column r 1) like

pub said_two : (p q : Value) (r : Row) → (is_like p (column r 1) ≡ true) × (is_like q (column r 2) ≡ true)
    → list_all (holds ((p ∷ q ∷ []) ∷ r ∷ [])) (at_first 0 ∷ at_first 1 ∷ [])
    ≡ (is_same p (column r 1) && is_same q (column r 2))
said_two p q r like = both_tests _ _ _ _ (value_test p (column r 1) like.0) (value_test q (column r 2) like.1)

pub said_three : (p q w : Value) (r : Row)
    → (is_like p (column r 1) ≡ true) × (is_like q (column r 2) ≡ true) × (is_like w (column r 3) ≡ true)
    → list_all (holds ((p ∷ q ∷ w ∷ []) ∷ r ∷ [])) (at_first 0 ∷ at_first 1 ∷ at_first 2 ∷ [])
    ≡ (is_same p (column r 1) && (is_same q (column r 2) && is_same w (column r 3)))
said_three p q w r like =
    all_tests _ _ _ _ _ _ (value_test p (column r 1) like.0) (value_test q (column r 2) like.1)
    (value_test w (column r 3) like.2)

-- ---- what is read and removed of a table

-- of such rows, those whose first columns equal what is given are those whose keys pass the test
abbrev pub Says : {K X : Type 0} → Description K X → (Row → Bool) → List Place → Row → (K → Bool) → Type 0
Says d has cs params test =
    (r : Row) → has r ≡ true → list_all (holds (params ∷ r ∷ [])) (of_first cs (length params)) ≡ test (d.entry r).0

-- what is computed of the text of such a SELECT: how it is written, that the resolver's limits suffice, and that it is
-- typed
abbrev pub IsAsked : {K X Y T : Type 0} (d : Description K X) {p : Part d Y} {ShowsItem : Row → T → Type 0}
    {item : T → K × Y} {IsLegible : Row → Type 0} → PartReading d p ShowsItem item IsLegible → List ℕ → Row → Type 0
IsAsked d q text params =
    IsSelectOf d.name q.shown q.by (length params) text × (is_small q.shown q.by (length params) ≡ true)
    × ((s : Schema) (at tree : ℕ) → IsKnown s d.name at (record (form d) { tree = tree })
    → (let query = query_on q.shown q.by (of_first q.shown (length params)) in
    (program s [] (draft query tree) ≡ Ok (whole query tree))
    × (accepts_program s [] (query tree) params ≡ true)))

abbrev pub selected : {K X Y T : Type 0} (d : Description K X) {p : Part d Y} {ShowsItem : Row → T → Type 0}
    {item : T → K × Y} {IsLegible : Row → Type 0} (q : PartReading d p ShowsItem item IsLegible)
    → AllByRecursion (IsColumn d.name d.columns d.key) q.shown → are_firm d.columns ≡ true
    → (text : List ℕ) (params : Row) {test : K → Bool} → IsAsked d q text params → Says d p.has q.shown params test
    → Selection d q text params test
selected d q are firm text params asked said = record {
  filter = of_first q.shown (length params);
  is =
      selects_first d.name d.columns d.key q.shown are firm (length params) text q.by asked.0 asked.1
      (λ s at tree known. (asked.2 s at tree known).0);
  said = said;
  reads = reads_of d.name q.shown (length params) text q.by asked.0;
  accepts = λ s at tree known. (asked.2 s at tree known).1;
}

-- what is computed of the text of such a DELETE
abbrev pub IsUsed : {K X : Type 0} → Description K X → List Place → List ℕ → Row → Type 0
IsUsed d cs text params =
    IsDeleteOf d.name cs (length params) text × (suffices_for (first_of_them cs (length params)) max_budget ≡ true)
    × ((s : Schema) (at tree : ℕ) → IsKnown s d.name at (record (form d) { tree = tree })
    → (let query = rowids_where tree (of_first cs (length params)) in
    (program s [] (simple (Inner tree ∷ []) (of_first cs (length params)) (col 1 0 ∷ []))
    ≡ Ok (record { lets = []; body = query })) × (accepts_program s [] query params ≡ true)))

abbrev pub removed : {K X : Type 0} (d : Description K X) (cs : List Place)
    → AllByRecursion (IsColumn d.name d.columns d.key) cs → are_firm d.columns ≡ true
    → (text : List ℕ) (params : Row) {test : K → Bool} → IsUsed d cs text params → Says d d.kind cs params test
    → Removal d text params test
removed d cs are firm text params loaded said = record {
  filter = of_first cs (length params);
  is =
      deletes_first d.name d.columns d.key cs are firm (length params) text loaded.0 loaded.1
      (λ s at tree known. (loaded.2 s at tree known).0);
  said = said;
  accepts = λ s at tree known. (loaded.2 s at tree known).1;
}

-- ---- what is put

-- what is computed of a row that a text puts
abbrev pub IsPut : {K X : Type 0} → Description K X → (params values : Row) → K → X → Type 0
IsPut d params values k x =
    (accepts_terms (terms_of d) (stamped (form d) params) ≡ true) × (are_typed None 0 d.columns values ≡ true)
    × ((id : ℤ) → (are_present None 0 d.columns (Int id ∷ values) ≡ true) × (d.kind (Int id ∷ values) ≡ true)
    × (d.entry (Int id ∷ values) ≡ (k, x)))

pub added : {K X : Type 0} (d : Description K X) {text : List ℕ} {params values : Row} {k : K} {x : X}
    → Inserts d text (length params)
    → ((rows : List Row) → numbered Chosen rows
    (map (λ s. cast_row (form d) (drop 0 s))
    (value_rows (stamped (form d) params) (length (terms_of d)) (length (terms_of d) / length (terms_of d))
    (terms_of d))) ≡ (Int (next_rowid rows) ∷ values) ∷ [])
    → IsPut d params values k x → ((id : ℤ) (r : Row) → d.kind r ≡ true
    → agree plain d.key r d.key (Int id ∷ values) ≡ true → (d.entry r).0 ≡ k) → Addition d text params values k x
added d {k = k} is made put same = record {
  is = is;
  accepts = put.0;
  made = made;
  typed = put.1;
  present = λ id. (put.2 id).0;
  kind = λ id. (put.2 id).1;
  entry = λ id. (put.2 id).2;
  fresh = λ db of_store mine none r there h.
      let typed = (d.kept db of_store mine).typed r there in
      lacks d.total d.same d.kind d.entry (rows_named db d.name) k
      (subst (λ m. finite.get m k ≡ None) (d.held db (d.within db of_store mine)) none) r there typed
      (same (next_rowid (rows_named db d.name)) r typed h);
}
