-- What a query lists and what a DELETE leaves, once for every table of the store.
use Rattle.std.proofs.Common.{◌≡◌, ℕ, ℤ, List, [], ◌∷◌, Bool, true, not, Result, Ok, Err, IfOk, Vec, Global, map}
use Rattle.std.proofs.Common.{length, IsTrue, refl, sym, ap, subst, ◌∙◌}
use Rattle.std.specs.declared.cmp.Ordering.{Ordering}
use Rattle.sqlite_value.specs.declared.value.Value.TheVariants.{Null}
use Rattle.std.specs.Ordering.{is_lt}
use Rattle.std.specs.Cmp.{IsTotalOrder}
use Rattle.std.specs.FinMap as finite
use Rattle.std.specs.List.{list_all, AllZip, AllAdjacentBelow}
use Rattle.sqlite_value.specs.Order.{Row}
use Rattle.sqlite_sql.specs.Term.{Term, holds}
use Rattle.sqlite_sql.specs.Query.{Query, IsAnswer}
use Rattle.sqlite_sql.specs.Program.{overlay}
use Rattle.sqlite_schema.specs.declared.schema.Column.{Column}
use Rattle.sqlite_schema.specs.declared.schema.Schema.{Schema}
use Rattle.sqlite_schema.specs.declared.command.Command.{Command}
use Rattle.sqlite_schema.specs.declared.command.Command.TheVariants.{Delete, Select}
use Rattle.sqlite_rules.specs.Edit.{without_all}
use Rattle.sqlite_rules.specs.Calls.{ids_of}
use Rattle.sqlite.specs.State.{State, Shown, ExecutesInside, IsUnchanged}
use Rattle.sqlite.proofs.Callers.{reads_as}
use Rattle.tables_sql.specs.declared.failure.Failed.{Failed}
use Rattle.tables_schema.specs.Forms.{strict}
use Rattle.tables_schema.specs.Intact.{IsKnown, IsIntact, HasTables, tree_named}
use Rattle.tables_sql.specs.Contents.{map_of, rows_named}
use Rattle.tables_sql.specs.Texts.{AreReadableRows}
use Rattle.tables_sql.specs.Queries.{IsAnswered}
use Rattle.tables_sql.specs.Calls.{IsKeyed, IsReady, IsUnderWay}
use Rattle.tables_sql.proofs.Orders.{rises_by}
use Rattle.tables_sql.proofs.Means.{IsMeant, means_command}
use Rattle.tables_sql.proofs.Writes.{SetsRows, deletes_in, rowids_where, overlay_low}
use Rattle.tables_sql.proofs.Scans.{IsScan, shows}
use Rattle.tables_sql.proofs.Entries.{part_listed, left_map}
use Rattle.tables_sql.proofs.Members.{keyed_left}
use Rattle.tables_sql.proofs.ReadableWrites.{left_readable}

-- in any schema that has the table, the text is this command
abbrev pub Compiles : (name : List ℕ) → List Column → List ℕ → List ℕ → ℕ → (ℕ → ℕ → Command) → Type 0
Compiles name columns key text count command =
    (s : Schema) (at tree : ℕ) → IsKnown s name at (record (strict name columns key) { tree = tree })
    → IsMeant s text count (command at tree)

-- what a query of the table answers, where the table is there
pub answer_of : (name : List ℕ) (columns : List Column) (key : List ℕ) (old new : State) (text : List ℕ) (params : Row)
    {names : List (List ℕ)} (query : ℕ → Query)
    → {count : ℕ} → Compiles name columns key text count
    (λ at tree. Select (record { lets = []; body = query tree }) names)
    → IsIntact old.now.schema (strict name columns key) → (rows : List Row) → Shown text params old new rows
    → IsAnswer (query (tree_named old.now.schema name)) (overlay old.now.trees []) params rows
answer_of name columns key old new text params query is exists rows shown =
    let m =
    means_command old.now.schema text _
    (is old.now.schema exists.at (tree_named old.now.schema name) exists.known) in
    (reads_as text params old new old.now.schema refl _ m.0 m.1 m.2 rows shown).answer Null

-- the entries that were read, with the rows that show them
abbrev pub Selects : {T : Type 0} → (Row → T → Type 0) → State → State → List ℕ → Row → Result (Vec T Global) Failed
    → Type 0
Selects ShowsItem old new text params r =
    IfOk r (λ all. (rows : List Row) × IsAnswered text params old new rows × AllZip ShowsItem rows all.items)

module _ (name : List ℕ) (columns : List Column) (key : List ℕ) {K X : Type 0} {R : K → K → Ordering}
    (o : IsTotalOrder R) (same : finite.IsAntisymmetric R) (kind : Row → Bool) (entry : Row → K × X) (old new : State)
    (at : HasTables old.now.schema → IsIntact old.now.schema (strict name columns key)) where
  abbrev rows_are : finite.FinMap R X
  rows_are = map_of R kind entry (rows_named old.now name)

  module _ (ready : IsTrue old.is_open → IsReady old) {T : Type 0} (text : List ℕ) (params : Row)
      (names : List (List ℕ)) (query : ℕ → Query) (scan : (tree : ℕ) → IsScan (query tree) tree) (test : K → Bool)
      (said : (tree : ℕ) (r : Row) → kind r ≡ true
      → list_all (holds (params ∷ r ∷ [])) (query tree).filter ≡ test (entry r).0)
      (ShowsItem : Row → T → Type 0) (item : T → K × X)
      (fits : (tree : ℕ) (r : Row) (t : T) → ShowsItem (shows (query tree) params r) t
      → (kind r ≡ true) × (entry r ≡ item t))
      {count : ℕ} (is : Compiles name columns key text count
      (λ at tree. Select (record { lets = []; body = query tree }) names)) where
    listed : (all : List T) (rows : List Row) → IsAnswered text params old new rows → AllZip ShowsItem rows all
        → AllAdjacentBelow (λ x y. true ≡ is_lt (R (item x).0 (item y).0)) all (length all)
        → IsUnchanged old new × (map item all ≡ finite.entries (finite.retain_keys rows_are test))
    listed all rows shown texts up =
        let same_all = shown.1.1 in
        let exists = at (ready same_all.0.was_open).of_store.has in
        let tree = tree_named old.now.schema name in
        let db = overlay old.now.trees [] in
        let same_rows : db tree ≡ old.now.trees tree = overlay_low old.now.trees tree exists.known.low in
        let answer = answer_of name columns key old new text params query is exists rows shown.0 in
        let part =
        part_listed o same kind entry tree (query tree) (scan tree) db params rows answer test (said tree) ShowsItem
        item (fits tree) all texts (rises_by o (λ t. (item t).0) all up) in
        (same_all, part ∙ ap (λ rs. finite.entries (finite.retain_keys (map_of R kind entry rs) test)) same_rows)

    -- the entries of a part of the keys, in order, and nothing changes
    pub reads_part : (r : Result (Vec T Global) Failed) → Selects ShowsItem old new text params r
        → IfOk r (λ all. AllAdjacentBelow (λ x y. true ≡ is_lt (R (item x).0 (item y).0)) all.items (length all.items))
        → IfOk r (λ all. IsUnchanged old new × (map item all.items ≡ finite.entries (finite.retain_keys rows_are test)))
    reads_part (Err e) selects up = tt
    reads_part (Ok all) selects up = listed all.items selects.0 selects.1 selects.2 up

  module _ (under : IsUnderWay old) (text : List ℕ) (params : Row) (filter : List Term) (test : K → Bool)
      (said : (r : Row) → kind r ≡ true → list_all (holds (params ∷ r ∷ [])) filter ≡ test (entry r).0)
      {count : ℕ} (is : Compiles name columns key text count
      (λ at tree. Delete at (record { lets = []; body = rowids_where tree filter }))) where
    -- the entries of a part of the keys are gone, and the others stay
    pub deletes_part : (count : ℕ) → ExecutesInside 0 text params old new (Ok count) → IsKeyed (rows_named old.now name)
        → (rows : List Row) × SetsRows old new (tree_named old.now.schema name) rows
        × (IsKeyed (rows_named old.now name) → IsKeyed rows)
        × (AreReadableRows (strict name columns key) (rows_named old.now name)
        → AreReadableRows (strict name columns key) rows)
        × (map_of R kind entry rows ≡ finite.retain_keys rows_are (λ k. not (test k)))
        × ((ids : List ℤ) × (rows ≡ without_all (rows_named old.now name) ids))
    deletes_part count h keyed =
        let exists = at (under.of_store h.1.was_open).has in
        let tree = tree_named old.now.schema name in
        let db = overlay old.now.trees [] in
        let same_rows : db tree ≡ old.now.trees tree = overlay_low old.now.trees tree exists.known.low in
        let m = means_command old.now.schema text _ (is old.now.schema exists.at tree exists.known) in
        let it =
        deletes_in name columns key tree exists.at filter text params old new count exists.unreferred under.mode
        exists.known.named.1 m.0 m.1 h.0 in
        let left =
        left_map o same kind entry tree filter db params it.0 it.1 (subst IsKeyed (sym same_rows) keyed) test
        said in (
          without_all (old.now.trees tree) (ids_of it.0),
          it.2,
          keyed_left (ids_of it.0) _,
          left_readable (strict name columns key) (ids_of it.0) _,
          subst (λ rs. map_of R kind entry (without_all rs (ids_of it.0))
              ≡ finite.retain_keys (map_of R kind entry rs) (λ k. not (test k))) same_rows left,
          (ids_of it.0, refl),
        )
