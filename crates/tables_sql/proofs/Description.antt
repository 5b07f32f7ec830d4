-- A table that is described once: its form, where it is among the store's, and the map or set that its rows make. What
-- its statements do, and why they fail, is proved over the description. Of one of the nine, that all nine are there
-- says enough; of a further table it has to be known next to.
use Rattle.std.proofs.Common.{◌≡◌, ◌⊎◌, inl, inr, ◌/◌, ◌+◌, ◌<◌, ℕ, zero, suc, ℤ, List, [], ◌∷◌, true, false, not, Bool}
use Rattle.std.proofs.Common.{Some, None, Option, Ok, Err, Result, IfOk, Vec, Global, map, length, drop, take, refl}
use Rattle.std.proofs.Common.{sym, ap, subst, ◌∙◌, IsTrue}
use Rattle.std.specs.declared.cmp.Ordering.{Ordering}
use Rattle.std.specs.Prelude.{IsSome}
use Rattle.std.specs.Cmp.{IsTotalOrder}
use Rattle.std.specs.Ordering.{is_lt}
use Rattle.std.specs.List.{AllByRecursion, AllAdjacentBelow, list_all}
use Rattle.std.specs.FinMap as finite
use Rattle.sqlite_value.specs.declared.value.Value.TheVariants.{Null, Int}
use Rattle.sqlite_value.specs.Order.{Row, column}
use Rattle.sqlite_trees.specs.Tree.{put_row}
use Rattle.sqlite_sql.specs.Term.{Term, lit, col, holds}
use Rattle.sqlite_sql.specs.Query.{output, output_cmp}
use Rattle.sqlite_schema.specs.declared.schema.Schema.{Schema}
use Rattle.sqlite_schema.specs.declared.schema.Column.{Column}
use Rattle.sqlite_schema.specs.declared.schema.Table.{Table}
use Rattle.sqlite_schema.specs.declared.schema.Keys.TheVariants.{Enforced}
use Rattle.sqlite_schema.specs.declared.command.Source.TheVariants.{Values}
use Rattle.sqlite_schema.specs.declared.command.Command.TheVariants.{Insert, Delete, Select}
use Rattle.sqlite_schema.specs.Rules.{are_typed, are_present}
use Rattle.sqlite_typing.specs.Types.{accepts_terms, accepts_program}
use Rattle.sqlite_rules.specs.Cast.{cast_row}
use Rattle.sqlite_rules.specs.Lists.{Has}
use Rattle.sqlite_rules.specs.Edit.{Edit, edit_of, edited, Applies, numbered, next_rowid, is_taken}
use Rattle.sqlite_rules.specs.declared.error.Rowids.TheVariants.{Chosen}
use Rattle.sqlite.specs.Rows.{stamped}
use Rattle.sqlite.specs.declared.error.Error.{Error}
use Rattle.sqlite.specs.Effect.{Database, value_rows}
use Rattle.sqlite.specs.State.{State, ExecutesInside, FailsToQuery, IsUnchanged}
use Rattle.tables_schema.specs.Forms.{strict, names_store_table}
use Rattle.tables_schema.specs.Intact.{IsKnown, IsNamed, IsIntact, HasTables, tree_named}
use Rattle.tables_sql.specs.Contents.{Contents, contents_of, map_of, rows_named}
use Rattle.tables_sql.specs.Texts.{IsReadable, AreReadableRows}
use Rattle.tables_sql.specs.declared.failure.Failed.{Failed}
use Rattle.tables_sql.specs.Calls.{IsKeyed, IsStoreDatabase, IsReady, IsUnderWay, Changes}
use Rattle.tables_sql.specs.Queries.{IsSelect, HasBegunWith}
use Rattle.tables_sql.specs.Reading.{IsAmiss}
use Rattle.tables_sql.specs.Failures.{failure_of, FailsWith, IsTooLarge, HasNoRowidLeft}
use Rattle.tables_sql.specs.Rowids.{NumberOn, NumbersOn}
use Rattle.tables_sql.proofs.Rowids.{left_numbers_on, put_numbers_on, sets_numbers_on}
use Rattle.tables_sql.proofs.Truths.{free_of}
use Rattle.tables_sql.proofs.Means.{IsMeant, means_command}
use Rattle.tables_sql.proofs.Writes.{SetsRows, inserts_in, rowids_where}
use Rattle.tables_sql.proofs.Members.{keyed_put}
use Rattle.tables_sql.proofs.Entries.{put_map, map-map, all_kept}
use Rattle.tables_sql.proofs.ReadableWrites.{put_readable}
use Rattle.tables_sql.proofs.Scans.{IsScan, shows}
use Rattle.tables_sql.proofs.Statements.{Compiles, Selects, reads_part, deletes_part}
use Rattle.tables_sql.proofs.ReadFailures.{open_read_fails}
use Rattle.tables_sql.proofs.Rising.{AreKept, shown_well}
use Rattle.tables_sql.proofs.Additions.{IsNewKey, insert_fails}
use Rattle.tables_sql.proofs.Removals.{delete_fails}
use Rattle.tables_sql.proofs.Alike.{made, part_made}
use Rattle.tables_sql.proofs.Places.{changed, own_rows, store_kept}
use Rattle.tables_sql.proofs.Ordered.{Place, outputs_of, query_on, names_on, scan_of, whole}
use Rattle.tables_sql.proofs.MappedRows.{HasOneRowEach}
use Rattle.tables_sql.proofs.NewEntries.{was_none}

-- a table with these columns, whose rows make a map from keys to values; a set is a map to the unit
pub record Description (K X : Type 0) : Type 1 where
  pub name : List ℕ
  pub columns : List Column
  pub key : List ℕ
  -- the map that its rows make
  pub order : K → K → Ordering
  pub total : IsTotalOrder order
  pub same : finite.IsAntisymmetric order
  pub kind : Row → Bool
  pub entry : Row → K × X
  -- which schemas have it, and what has to be known of a database in addition to its being the store's
  pub IsIn : Schema → Type 0
  pub IsOwn : Database → Type 0
  pub within : (db : Database) → IsStoreDatabase db → IsOwn db → IsIn db.schema
  -- which of the maps it is
  pub of : Contents → finite.FinMap order X
  pub put : Contents → finite.FinMap order X → Contents
  pub held : (db : Database) → IsIn db.schema → of (contents_of db) ≡ map_of order kind entry (rows_named db name)
  -- it is one of the store
  pub named : names_store_table name ≡ true
  pub exists : (s : Schema) → IsIn s → IsIntact s (strict name columns key)
  pub keyed : (db : Database) → IsStoreDatabase db → IsOwn db → IsKeyed (rows_named db name)
  pub kept : (db : Database) → IsStoreDatabase db → IsOwn db
      → AreKept kind (λ r. (entry r).0) (length columns) (rows_named db name)
  -- what the store's tables hold after a write to it, and that it is still there
  pub written : (old new : State) (rows : List Row) → HasTables old.now.schema → IsIn old.now.schema
      → SetsRows old new (tree_named old.now.schema name) rows → (m : finite.FinMap order X)
      → map_of order kind entry rows ≡ m → contents_of new.now ≡ put (contents_of old.now) m
  pub still : (old new : State) (rows : List Row) → IsIntact old.now.schema (strict name columns key)
      → SetsRows old new (tree_named old.now.schema name) rows → (IsKeyed (rows_named old.now name) → IsKeyed rows)
      → (AreReadableRows (strict name columns key) (rows_named old.now name)
      → AreReadableRows (strict name columns key) rows) → IsOwn old.now → IsOwn new.now

abbrev pub form : {K X : Type 0} → Description K X → Table
form d = strict d.name d.columns d.key

-- ---- one entry more

-- N parameters, from this one on
abbrev pub parameters : ℕ → ℕ → List Term
parameters at zero = []
parameters at (suc n) = col 0 at ∷ parameters (at + 1) n

-- what is put: a new rowid, and a parameter for each column
abbrev pub terms_of : {K X : Type 0} → Description K X → List Term
terms_of d = lit Null ∷ parameters 0 (length d.columns)

-- in any schema that has the table, the text puts so
abbrev pub Inserts : {K X : Type 0} → Description K X → List ℕ → ℕ → Type 0
Inserts d text count =
    (s : Schema) (at tree : ℕ) → IsNamed s d.name at (record (form d) { tree = tree })
    → IsMeant s text count (Insert at (Values (terms_of d) (length (terms_of d))))

-- a text, with what it is given, that puts a row of these values, which is this entry
pub record Addition {K X : Type 0} (d : Description K X) (text : List ℕ) (params values : Row) (k : K) (x : X) : Type
    0 where
  pub is : Inserts d text (length params)
  pub accepts : accepts_terms (terms_of d) (stamped (form d) params) ≡ true
  pub made : (rows : List Row) → numbered Chosen rows
      (map (λ s. cast_row (form d) (drop 0 s))
      (value_rows (stamped (form d) params) (length (terms_of d)) (length (terms_of d) / length (terms_of d))
      (terms_of d))) ≡ (Int (next_rowid rows) ∷ values) ∷ []
  pub typed : are_typed None 0 d.columns values ≡ true
  pub present : (id : ℤ) → are_present None 0 d.columns (Int id ∷ values) ≡ true
  pub kind : (id : ℤ) → d.kind (Int id ∷ values) ≡ true
  pub entry : (id : ℤ) → d.entry (Int id ∷ values) ≡ (k, x)
  pub fresh : (db : Database) → IsStoreDatabase db → d.IsOwn db → finite.get (d.of (contents_of db)) k ≡ None
      → IsNewKey d.name d.key db values

module _ {K X : Type 0} (d : Description K X) (old new : State) (under : IsUnderWay old)
    (own : IsTrue old.is_open → d.IsOwn old.now) where
  abbrev in_schema : IsTrue old.is_open → d.IsIn old.now.schema
  in_schema up = d.within old.now (under.of_store up) (own up)

module _ {K X : Type 0} (d : Description K X) (old new : State) (under : IsUnderWay old)
    (own : IsTrue old.is_open → d.IsOwn old.now) {text : List ℕ} {params values : Row} {k : K} {x : X}
    (a : Addition d text params values k x) where
  abbrev rows : List Row
  rows = rows_named old.now d.name

  abbrev row : Row
  row = Int (next_rowid rows) ∷ values

  -- its rowid is new, and it comes to the rows that were there
  puts : (count : ℕ) → ExecutesInside 0 text params old new (Ok count)
      → (is_taken rows row ≡ false) × SetsRows old new (tree_named old.now.schema d.name) (put_row row rows)
  puts count h =
      let exists = d.exists old.now.schema (in_schema d old new under own h.1.was_open) in
      let tree = tree_named old.now.schema d.name in
      let own : Table = record (form d) { tree = tree } in
      let m = means_command old.now.schema text _ (a.is old.now.schema exists.at tree exists.known.named) in
      let it =
      inserts_in d.name d.columns d.key tree exists.at (length (terms_of d)) (terms_of d) text params old new count
      under.mode exists.known.named.1 m.0 m.1 h.0 in
      let addition : Edit = record { table = own; gone = []; news = row ∷ [] } in
      let same : edit_of old.now.trees own [] Chosen 0
      (value_rows (stamped own params) (length (terms_of d)) (length (terms_of d) / length (terms_of d))
      (terms_of d)) ≡ addition = ap
      (λ (all : List Row). let e : Edit = record { table = own; gone = []; news = all } in e) (a.made rows) in
      let applies : Applies old.now.schema Enforced old.now.trees addition new.now.trees =
      subst (λ e. Applies old.now.schema Enforced old.now.trees e new.now.trees) same it.0 in
      let sets : SetsRows old new tree (put_row row rows) =
      subst (λ e. SetsRows old new tree (edited old.now.trees e)) same it.1 in
      (free_of _ _ applies.fresh, sets)

  abbrev Added : Type 0
  Added = Changes old new (λ c. d.put c (finite.insert (d.of c) k x))

  -- the entry wasn't there, and is
  pub adds : (count : ℕ) → AllByRecursion IsReadable values → ExecutesInside 0 text params old new (Ok count)
      → (finite.get (d.of (contents_of old.now)) k ≡ None) × Added
  adds count texts h =
      let of_store = under.of_store h.1.was_open in
      let mine = own h.1.was_open in
      let here = d.within old.now of_store mine in
      let exists = d.exists old.now.schema here in
      let it = puts count h in
      let e = a.entry (next_rowid rows) in
      let keyed : IsKeyed rows → IsKeyed (put_row row rows) = keyed_put row rows it.0 refl in
      let readable = put_readable (form d) row rows (tt, texts) in
      let after : IsStoreDatabase new.now =
      store_kept (form d) old new (put_row row rows) exists it.1 of_store keyed readable in
      let once : HasOneRowEach d.total d.same d.kind d.entry (put_row row rows) =
      subst (HasOneRowEach d.total d.same d.kind d.entry) (own_rows (form d) old new (put_row row rows) exists it.1)
      (d.kept new.now after (d.still old new (put_row row rows) exists it.1 keyed readable mine)).once in
      let lacks : finite.get (map_of d.order d.kind d.entry rows) (d.entry row).0 ≡ None =
      was_none d.total d.same d.kind d.entry row rows it.0 (a.kind _) once in
      let more : map_of d.order d.kind d.entry (put_row row rows)
      ≡ finite.insert (map_of d.order d.kind d.entry rows) k x =
      put_map d.total d.same d.kind d.entry row rows it.0 (a.kind _) lacks
      ∙ ap (λ (p : K × X). finite.insert (map_of d.order d.kind d.entry rows) p.0 p.1) e in
      let held = d.held old.now here in (
        subst (λ m. finite.get m k ≡ None) (sym held)
            (subst (λ (p : K × X). finite.get (map_of d.order d.kind d.entry rows) p.0 ≡ None) e lacks),
        changed (form d) old new (put_row row rows) exists it.1 _ of_store keyed readable d.named
            (d.written old new (put_row row rows) of_store.has here it.1 _
            (more ∙ ap (λ m. finite.insert m k x) (sym held))),
      )

  -- the tables number on by one row
  pub adds_number : (count : ℕ) → ExecutesInside 0 text params old new (Ok count) → NumbersOn 1 old.now new.now
  adds_number count h =
      sets_numbers_on 1 old new (tree_named old.now.schema d.name) (put_row row rows) (put_numbers_on rows row refl)
      (puts count h).1

  -- why it isn't added: next to the store, for a limit on steps, for want of a rowid, or since its key is there
  pub adds_not : (e : Error) → ExecutesInside 0 text params old new (Err e)
      → FailsWith old new (IsTooLarge old.now (form d) values ⊎ (old.is_open ≡ false))
      (IsSome old.step_limit ⊎ (HasNoRowidLeft old.now (form d)
      ⊎ IsSome (finite.get (d.of (contents_of old.now)) k))) (failure_of e)
  adds_not e h =
      insert_fails d.name d.columns d.key old new under
      (λ up. d.exists old.now.schema (in_schema d old new under own up)) text (length params) params (terms_of d)
      (length (terms_of d)) values refl (λ s at tree known. a.is s at tree known.named) a.accepts a.made a.typed
      a.present
      (IsSome (finite.get (d.of (contents_of old.now)) k))
      (λ up. free (under.of_store up) (own up) (finite.get (d.of (contents_of old.now)) k) refl) e h
    where
      free : IsStoreDatabase old.now → d.IsOwn old.now → (o : Option X) → finite.get (d.of (contents_of old.now)) k ≡ o
          → IsNewKey d.name d.key old.now values ⊎ IsSome (finite.get (d.of (contents_of old.now)) k)
      free of_store mine None none = inl (a.fresh old.now of_store mine none)
      free of_store mine (Some v) there = inr (subst IsSome (sym there) refl)

-- ---- those of a part of the keys gone

-- a text, with what it is given, that removes the rows whose keys pass the test
pub record Removal {K X : Type 0} (d : Description K X) (text : List ℕ) (params : Row) (test : K → Bool) : Type 0 where
  pub filter : List Term
  pub is : Compiles d.name d.columns d.key text (length params)
      (λ at tree. Delete at (record { lets = []; body = rowids_where tree filter }))
  pub said : (r : Row) → d.kind r ≡ true → list_all (holds (params ∷ r ∷ [])) filter ≡ test (d.entry r).0
  pub accepts : (s : Schema) (at tree : ℕ) → IsKnown s d.name at (record (form d) { tree = tree })
      → accepts_program s [] (rowids_where tree filter) params ≡ true

module _ {K X : Type 0} (d : Description K X) (old new : State) (under : IsUnderWay old)
    (own : IsTrue old.is_open → d.IsOwn old.now) {text : List ℕ} {params : Row} {test : K → Bool}
    (r : Removal d text params test) where
  pub removes : (count : ℕ) → ExecutesInside 0 text params old new (Ok count)
      → Changes old new (λ c. d.put c (finite.retain_keys (d.of c) (λ k. not (test k))))
  removes count h =
      let of_store = under.of_store h.1.was_open in
      let mine = own h.1.was_open in
      let here = d.within old.now of_store mine in
      let exists = d.exists old.now.schema here in
      let it =
      deletes_part d.name d.columns d.key d.total d.same d.kind d.entry old new (λ _. exists) under text params
      r.filter test r.said r.is count h (d.keyed old.now of_store mine) in
      changed (form d) old new it.0 exists it.1 _ of_store it.2 it.3 d.named
      (d.written old new it.0 of_store.has here it.1 _
      (it.4 ∙ ap (λ m. finite.retain_keys m (λ k. not (test k))) (sym (d.held old.now here))))

  -- and no table numbers on
  pub removes_number : (count : ℕ) → ExecutesInside 0 text params old new (Ok count) → NumbersOn 0 old.now new.now
  removes_number count h =
      let of_store = under.of_store h.1.was_open in
      let mine = own h.1.was_open in
      let exists = d.exists old.now.schema (d.within old.now of_store mine) in
      let it =
      deletes_part d.name d.columns d.key d.total d.same d.kind d.entry old new (λ _. exists) under text params
      r.filter test r.said r.is count h (d.keyed old.now of_store mine) in
      let left : NumberOn 0 (rows_named old.now d.name) it.0 =
      subst (NumberOn 0 (rows_named old.now d.name)) (sym it.5.1)
      (left_numbers_on it.5.0 (rows_named old.now d.name)) in
      sets_numbers_on 0 old new (tree_named old.now.schema d.name) it.0 left it.1

  pub removes_not : (e : Error) → ExecutesInside 0 text params old new (Err e)
      → FailsWith old new (old.is_open ≡ false) (IsSome old.step_limit) (failure_of e)
  removes_not e h =
      delete_fails d.name d.columns d.key old new under
      (λ up. d.exists old.now.schema (in_schema d old new under own up)) text (length params) params r.filter refl r.is
      r.accepts e h

-- ---- reading

-- a part of what an entry holds next to its key, and which rows have what it is made of, as each row of the table has
pub record Part {K X : Type 0} (d : Description K X) (Y : Type 0) : Type 0 where
  pub of : X → Y
  pub has : Row → Bool
  pub alike : (db : Database) → IsStoreDatabase db → d.IsOwn db → (r : Row) → Has (rows_named db d.name) r
      → has r ≡ d.kind r

-- all of it
abbrev pub entire : {K X : Type 0} → (d : Description K X) → Part d X
entire d = record { of = λ x. x; has = d.kind; alike = λ db of_store mine r there. refl }

-- one that a row of the table's kind has, since each row of the table is of that kind
abbrev pub part : {K X Y : Type 0} → (d : Description K X) → (X → Y) → (has : Row → Bool)
    → ((r : Row) → d.kind r ≡ true → has r ≡ true) → Part d Y
part d of has enough =
    record {
      of = of;
      has = has;
      alike =
          λ db of_store mine r there. enough r ((d.kept db of_store mine).typed r there)
          ∙ sym ((d.kept db of_store mine).typed r there);
    }

-- how a query shows the key and a part of an entry, by which columns and in the order of how many of them, and which of
-- its rows can be read as one
pub record PartReading {K X Y T : Type 0} (d : Description K X) (p : Part d Y) (ShowsItem : Row → T → Type 0)
    (item : T → K × Y) (IsLegible : Row → Type 0) : Type 0 where
  pub shown : List Place
  pub by : ℕ
  pub fits : (params : Row) (filter : List Term) (tree : ℕ) (r : Row) (t : T)
      → ShowsItem (shows (query_on shown by filter tree) params r) t
      → (p.has r ≡ true) × (made d.order p.of (d.entry r) ≡ item t)
  pub legible : (params : Row) (filter : List Term) (tree : ℕ) (r : Row) → d.kind r ≡ true
      → ((at : ℕ) → at < length d.columns → IsReadable (column r (at + 1)))
      → IsLegible (shows (query_on shown by filter tree) params r)
  pub orders : (params : Row) (filter : List Term) (tree : ℕ) (a b : Row) → d.kind a ≡ true → d.kind b ≡ true
      → (let query = query_on shown by filter tree in
      output_cmp query (output query (params ∷ a ∷ [])) (output query (params ∷ b ∷ [])))
      ≡ d.order (d.entry a).0 (d.entry b).0

-- how it shows an entry
abbrev pub Reading : {K X T : Type 0} → Description K X → (Row → T → Type 0) → (T → K × X) → (Row → Type 0) → Type 0
Reading d ShowsItem item IsLegible = PartReading d (entire d) ShowsItem item IsLegible

-- a text, with what it is given, that shows the rows whose keys pass the test
pub record Selection {K X Y T : Type 0} (d : Description K X) {p : Part d Y} {ShowsItem : Row → T → Type 0}
    {item : T → K × Y} {IsLegible : Row → Type 0} (q : PartReading d p ShowsItem item IsLegible) (text : List ℕ)
    (params : Row) (test : K → Bool) : Type 0 where
  pub filter : List Term
  pub is : Compiles d.name d.columns d.key text (length params)
      (λ at tree. Select (whole (query_on q.shown q.by filter) tree) (names_on q.shown))
  pub said : (r : Row) → p.has r ≡ true → list_all (holds (params ∷ r ∷ [])) filter ≡ test (d.entry r).0
  pub reads : IsSelect text
  pub accepts : (s : Schema) (at tree : ℕ) → IsKnown s d.name at (record (form d) { tree = tree })
      → accepts_program s [] (query_on q.shown q.by filter tree) params ≡ true

module _ {K X Y T : Type 0} (d : Description K X) {p : Part d Y} {ShowsItem : Row → T → Type 0} {item : T → K × Y}
    {IsLegible : Row → Type 0} (q : PartReading d p ShowsItem item IsLegible) (old new : State) {text : List ℕ}
    {params : Row} {test : K → Bool} (s : Selection d q text params test) where
  abbrev scan : (tree : ℕ) → IsScan (query_on q.shown q.by s.filter tree) tree
  scan = scan_of (outputs_of q.shown) (take q.by q.shown) s.filter

  -- that part of the entries of these keys, in order
  pub selects : (IsTrue old.is_open → IsReady old) → (IsTrue old.is_open → d.IsOwn old.now)
      → (r : Result (Vec T Global) Failed) → Selects ShowsItem old new text params r
      → IfOk r (λ all. AllAdjacentBelow (λ x y. true ≡ is_lt (d.order (item x).0 (item y).0)) all.items
      (length all.items))
      → IfOk r (λ all. IsUnchanged old new
      × (map item all.items ≡ map (made d.order p.of)
      (finite.entries (finite.retain_keys (d.of (contents_of old.now)) test))))
  selects ready own (Err f) got up = tt
  selects ready own (Ok all) got up =
      let is_open = got.1.1.1.0.was_open in
      let of_store = (ready is_open).of_store in
      let here = d.within old.now of_store (own is_open) in
      let read =
      reads_part d.name d.columns d.key d.total d.same p.has (λ r. made d.order p.of (d.entry r)) old new
      (λ _. d.exists old.now.schema here) ready text params (names_on q.shown)
      (query_on q.shown q.by s.filter) scan test (λ tree r has. s.said r has) ShowsItem item (q.fits params s.filter)
      s.is (Ok all) got up in
      let of_rows =
      part_made d.order p.of d.kind p.has d.entry d.total d.same test (rows_named old.now d.name)
      (p.alike old.now of_store (own is_open)) in (
        read.0,
        read.1 ∙ of_rows ∙ ap (λ m. map (made d.order p.of) (finite.entries (finite.retain_keys m test)))
            (sym (d.held old.now here)),
      )

  -- why they aren't read
  pub selects_not : (IsTrue old.is_open → d.IsIn old.now.schema) → (e : Error) → FailsToQuery text params old new e
      → FailsWith old new ⊥ (IsSome old.step_limit) (failure_of e)
  selects_not here =
      open_read_fails d.name d.columns d.key old new (λ up. d.exists old.now.schema (here up)) text params
      (names_on q.shown) (query_on q.shown q.by s.filter) scan s.is s.reads s.accepts

  -- what is shown can be read, and rises
  pub never_amiss : (IsTrue old.is_open → IsReady old) → (IsTrue old.is_open → d.IsOwn old.now) → (rows : List Row)
      → HasBegunWith text params old new rows
      → ¬ IsAmiss IsLegible ShowsItem (λ x y. is_lt (d.order (item x).0 (item y).0)) rows
  never_amiss ready own rows begun =
      let mine = own begun.1.0.was_open in
      shown_well d.name d.columns d.key d.same d.kind (λ r. (d.entry r).0) (length d.columns) old new ready
      (λ _. d.exists old.now.schema (d.within old.now (ready begun.1.0.was_open).of_store mine))
      (λ of_store. d.kept old.now of_store mine) text params (names_on q.shown) (query_on q.shown q.by s.filter)
      scan s.is (q.orders params s.filter)
      ShowsItem (λ t. (item t).0) (λ tree row t h. ap (λ e. e.0) (q.fits params s.filter tree row t h).1) IsLegible
      (q.legible params s.filter) rows begun

-- ---- in other words

-- one equation for another
pub reported_as : {T Y Z : Type 0} (r : Result (Vec T Global) Failed) (P : Type 0) (f : T → Y) (g : T → Z) (a : List Y)
    (b : List Z) → ((ts : List T) → map f ts ≡ a → map g ts ≡ b) → IfOk r (λ all. P × (map f all.items ≡ a))
    → IfOk r (λ all. P × (map g all.items ≡ b))
reported_as (Err e) P f g a b leads h = tt
reported_as (Ok all) P f g a b leads h = (h.0, leads all.items h.1)

module _ {K X Y : Type 0} (d : Description K X) (m : finite.FinMap d.order X) where
  -- where no key is left out
  pub with_all : (of : X → Y) → map (made d.order of) (finite.entries (finite.retain_keys m (λ _. true)))
      ≡ map (made d.order of) (finite.entries m)
  with_all of = ap (λ x. map (made d.order of) (finite.entries x)) (all_kept d.total d.same m)

  -- the keys alone
  pub keys_of : {T : Type 0} (of : X → Y) (item : T → K × Y) (ts : List T)
      → map item ts ≡ map (made d.order of) (finite.entries m) → map (λ t. (item t).0) ts ≡ finite.keys m
  keys_of of item ts is =
      sym (map-map (λ (e : K × Y). e.0) item ts) ∙ ap (map (λ (e : K × Y). e.0)) is
      ∙ map-map (λ (e : K × Y). e.0) (made d.order of) (finite.entries m)
