-- A query of the rowid and of columns of each row of a table.
use Rattle.std.proofs.Common.{◌≡◌, ℕ, true, false, List, [], ◌∷◌, ◌++◌, map, codes, None, Some, Option, Ok, refl, sym}
use Rattle.std.proofs.Common.{ap, subst, ◌∙◌, slice_get, append_assoc, append-nil}
use Rattle.std.specs.Prelude.{nat_lt, ◌-◌, ◌+◌, ◌^◌, length}
use Rattle.std.specs.List.{AllByRecursion}
use Rattle.sqlite_value.specs.declared.keys.Collation.{Collation}
use Rattle.sqlite_value.specs.declared.keys.Collation.TheVariants.{Binary}
use Rattle.sqlite_ast.specs.declared.Core.{out-Core}
use Rattle.sqlite_ast.specs.declared.Expr.{Expr, out-Expr}
use Rattle.sqlite_ast.specs.declared.Expr.TheOpen.{Expr-F, Shown-F}
use Rattle.sqlite_ast.specs.declared.Expr.TheVariants as expr
use Rattle.sqlite_ast.specs.declared.Expr.TheViews.{out-roll-Core, out-roll-Select}
use Rattle.sqlite_ast.specs.declared.Origin.TheVariants as origin
use Rattle.sqlite_ast.specs.declared.Select.{out-Select}
use Rattle.sqlite_ast.specs.declared.Shown.{Shown, out-Shown}
use Rattle.sqlite_ast.specs.declared.Shown.TheVariants.{One}
use Rattle.sqlite_ast.specs.declared.Sort.{Sort}
use Rattle.sqlite_ast.specs.declared.Source.{Source, roll-Source}
use Rattle.sqlite_sql.specs.Term.{col}
use Rattle.sqlite_typing.specs.Types.{accepts_program}
use Rattle.sqlite_schema.specs.declared.schema.Column.{Column}
use Rattle.sqlite_schema.specs.declared.schema.Schema.{Schema}
use Rattle.sqlite_schema.specs.Names.{column_named}
use Rattle.sqlite_resolve.specs.declared.scope.Bound.{Bound}
use Rattle.sqlite_resolve.specs.declared.scope.Output.{Output}
use Rattle.sqlite_resolve.specs.Body.{outputs, outputs_from, shown, heading, is_column, declared, tests}
use Rattle.sqlite_resolve.specs.Expr.{lower}
use Rattle.sqlite_resolve.specs.Lowering.{max_budget}
use Rattle.sqlite_resolve.specs.Program.{program}
use Rattle.sqlite_resolve.specs.Scope.{Name, find as found_in, in_level, only, hit, column_in, is_among, is_rowid}
use Rattle.sqlite_resolve.specs.Scope.{rowid_in}
use Rattle.sqlite_tied.specs.Compute.{everything}
use Rattle.tables_schema.specs.Forms.{strict}
use Rattle.tables_schema.specs.Intact.{IsKnown}
use Rattle.tables_sql.specs.Queries.{IsSelect}
use Rattle.tables_sql.proofs.Means.{lower_column, plain_state, shown_column}
use Rattle.tables_sql.proofs.ReadFailures.{open_read_fails}
use Rattle.tables_sql.proofs.Ordered.{Place, IsColumn, IsOfOne, AreSorts, AreAbove, outputs_of, context, draft, whole}
use Rattle.tables_sql.proofs.Ordered.{spent, last_of, found as column_found, column as column_is, selects_by}
use Rattle.tables_sql.proofs.Parts.{IsSelectOf, select_as}
use Rattle.tables_recognize.proofs.Asking.{Asks}
use Rattle.tables_recognize.proofs.OwnRowids.{query, results, names, scan, rowid_column, shown_rowid, below, IsRowid}

-- ---- as it is written

-- the rowid, as a column is written
abbrev pub rowid_place : Place
rowid_place = (codes "rowid", 0)

abbrev shown_as : Place → Shown
shown_as c = One (expr.Column None c.0) None c.0

abbrev source_as : Name → Source
source_as name =
    roll-Source (record { is_left = false; origin = origin.Table name; alias = None; on = None; using = [] })

-- the text shows the rowid and these columns of each row of a table, in no order, and nothing comes after it
abbrev pub AreRowsOf : Name → List Place → List ℕ → Type 0
AreRowsOf name cs text = IsSelectOf name (rowid_place ∷ cs) 0 0 text

abbrev reads_of : (name : Name) (cs : List Place) (text : List ℕ) → AreRowsOf name cs text → IsSelect text
reads_of name cs text is = (is.0, is.1, is.2, is.3, select_as name (rowid_place ∷ cs) 0 0, is.4)

module _ (name : Name) (cs : List Place) where
  shown_are : (out-Core (out-Select (select_as name cs 0 0)).first).shown ≡ map shown_as cs
  shown_are = ap (λ s. (out-Core s.first).shown) (out-roll-Select _) ∙ ap (λ c. c.shown) (out-roll-Core _)

  no_filter : (out-Core (out-Select (select_as name cs 0 0)).first).filter ≡ None
  no_filter = ap (λ s. (out-Core s.first).filter) (out-roll-Select _) ∙ ap (λ c. c.filter) (out-roll-Core _)

  no_order : (out-Select (select_as name cs 0 0)).order ≡ []
  no_order = ap (λ s. s.order) (out-roll-Select _)

  is_of_one : IsOfOne name (select_as name cs 0 0) (source_as name)
  unfolding everything
  is_of_one = (refl, refl, refl, refl, refl, refl, refl, refl, refl, refl, refl, refl, refl, λ s. refl)

shown_so : (c : Place) → out-Shown (shown_as c) ≡ Shown-F.One (expr.Column None c.0) None c.0
unfolding everything
shown_so c = refl

named_so : (c : Place) → out-Expr (expr.Column None c.0) ≡ Expr-F.Column None c.0
unfolding everything
named_so c = refl

named : is_rowid (codes "rowid") ≡ true
unfolding everything
named = refl

-- ---- what it means

module _ (name : Name) (columns : List Column) (key : List ℕ)
    (bare : column_named (strict name columns key) (codes "rowid") ≡ None) where
  module _ (s : Schema) (at tree : ℕ)
      (present : slice_get s.tables at ≡ Some (record (strict name columns key) { tree = tree }))
      (low : nat_lt tree (2 ^ 31) ≡ true) where
    rowid_is : (e : Expr) → out-Expr e ≡ Expr-F.Column None (codes "rowid")
        → IsRowid (context name columns key s at [] true) e at
    unfolding found_in in_level only hit column_in is_among rowid_in declared
    rowid_is e names = record { names = names; found = rw (present, bare, named, low); heading = rw present }

    heads : (c : Place) → IsColumn name columns key c → declared s at (Some c.1) ≡ Some c.0
    unfolding declared
    heads c is = rw (present, is.1.1, is.1.3)

    shows : (tables : List Bound) (done : List Output) (c : Place) → IsColumn name columns key c
        → (last : Option Collation) (budget : ℕ) → nat_lt 1 budget ≡ true
        → shown lower (context name columns key s at [] true) tables done (shown_as c) (plain_state budget last)
        ≡ Ok (done ++ shown_column c.0 (c.1 + 1) ∷ [], plain_state (budget - 1) (Some Binary))
    unfolding shown heading is_column
    shows tables done c is last budget enough =
        let lowered =
        lower_column (context name columns key s at [] true) (expr.Column None c.0) c.0 at c.1 (col 1 (c.1 + 1))
        (Some Binary) last budget (named_so c) (column_found name columns key s at tree present [] true c is)
        (column_is name columns key s at tree present c is) enough in
        rw (shown_so c, lowered, named_so c, column_found name columns key s at tree present [] true c is, heads c is)

    shows_all : (tables : List Bound) (done : List Output) (cs : List Place)
        → AllByRecursion (IsColumn name columns key) cs → (last : Option Collation) (budget : ℕ)
        → AreAbove (length cs) budget
        → outputs_from lower (context name columns key s at [] true) tables done (map shown_as cs)
        (plain_state budget last) ≡ Ok
        (done ++ outputs_of cs, plain_state (spent (length cs) budget) (last_of cs last))
    shows_all tables done [] are last budget enough = rw (append-nil done) refl
    shows_all tables done (c ∷ cs) are last budget enough =
        let o = shown_column c.0 (c.1 + 1) in
        rw (
          shows tables done c are.0 last budget enough.0,
          shows_all tables (done ++ o ∷ []) cs are.1 (Some Binary) (budget - 1) enough.1,
          append_assoc done (o ∷ []) (outputs_of cs),
        ) refl

    outputs_are : (tables : List Bound) (cs : List Place) → AllByRecursion (IsColumn name columns key) cs
        → AreAbove (length cs) (max_budget - 1)
        → outputs lower (context name columns key s at [] true) tables (map shown_as (rowid_place ∷ cs))
        (plain_state max_budget None)
        ≡ Ok (results cs, plain_state (spent (length cs) (max_budget - 1)) (last_of cs None))
    unfolding outputs
    outputs_are tables cs are enough =
        let rowid = expr.Column None (codes "rowid") in
        rw (
          shown_rowid (context name columns key s at [] true) tables (shown_as rowid_place) rowid
              (codes "rowid") at None max_budget (shown_so rowid_place) (rowid_is rowid (named_so rowid_place)) refl,
          shows_all tables (rowid_column ∷ []) cs are None (max_budget - 1) enough,
        ) refl

  unfiltered : (s : Schema) (at : ℕ) (cs : List Place) (budget : ℕ) (last : Option Collation) {filter : Option Expr}
      → filter ≡ None → tests lower (context name columns key s at (results cs) false) [] filter
      (plain_state budget last) ≡ Ok ([], plain_state budget last)
  unfolding tests
  unfiltered s at cs budget last every = rw every

  -- what is computed of the text: how it is written, that the resolver's limits suffice, and that it is typed
  abbrev pub AreAsked : List Place → List ℕ → Type 0
  AreAsked cs text = AreRowsOf name cs text × AreAbove (length cs) (max_budget - 1)
      × ((s : Schema) (at tree : ℕ) → IsKnown s name at (record (strict name columns key) { tree = tree })
      → (program s [] (draft (query cs) tree) ≡ Ok (whole (query cs) tree))
      × (accepts_program s [] (query cs tree) [] ≡ true))

  -- in any schema that has the table, the text shows its rowids and these columns
  pub asks : (text : List ℕ) (cs : List Place) → AllByRecursion (IsColumn name columns key) cs → AreAsked cs text
      → Asks name columns key text (names cs) (query cs)
  asks text cs are asked =
      let left = spent (length cs) (max_budget - 1) in
      let reads = reads_of name cs text asked.0 in
      let is =
      selects_by name columns key text (results cs) [] tt reads {source = source_as name}
      (is_of_one name (rowid_place ∷ cs))
      (subst (λ (l : List Sort). AreSorts (results cs) l []) (sym (no_order name (rowid_place ∷ cs))) tt)
      (last_of cs None) (last_of cs None) left left
      (λ s at tree known. rw (shown_are name (rowid_place ∷ cs))
      (outputs_are s at tree known.named.1 (below tree known.low)
      (record { name = name; table = at; slot = 1; shared = [] } ∷ []) cs are asked.1))
      [] tt (λ s at tree known. unfiltered s at cs left (last_of cs None) (no_filter name (rowid_place ∷ cs)))
      (λ s at tree known. (asked.2 s at tree known).0) asked.0.5 asked.0.6 in
      record {
        scan = scan cs;
        is = is;
        reads = reads;
        fails =
            λ old new exists. open_read_fails name columns key old new exists text [] (names cs) (query cs) (scan cs) is
            reads (λ s at tree known. (asked.2 s at tree known).1);
      }
