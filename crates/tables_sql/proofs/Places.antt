-- A write to one of the store's tables leaves each other table as it was, the store's and the foreign ones.
use Rattle.std.proofs.Common.{◌≡◌, ◌≢◌, ℕ, List, [], ◌∷◌, Bool, true, false, not, ◌||◌, ◌==◌, Some, refl, sym, ap}
use Rattle.std.proofs.Common.{subst, subst₂, ◌∙◌, ◌+◌, ◌<◌, length, slice_get, bytes_eq}
use Rattle.std.specs.Prelude.{cond, find, option_and_then, option_map, unwrap_or}
use Rattle.std.specs.List.{AllByRecursion, list_all}
use Rattle.std.proofs.lemmas.Slice.Eq.{bytes_eq-Decides}
use Rattle.std.proofs.lemmas.Bool.{eq-eqb}
use Rattle.sqlite_value.specs.Order.{Row, column}
use Rattle.sqlite_trees.proofs.ListLemmas.{all-slice_get}
use Rattle.sqlite_schema.specs.declared.schema.Schema.{Schema}
use Rattle.sqlite_schema.specs.declared.schema.Table.{Table}
use Rattle.sqlite_schema.specs.declared.schema.Column.{Column}
use Rattle.sqlite_schema.specs.Names.{same_name, table_named}
use Rattle.sqlite_rules.specs.Lists.{Has}
use Rattle.sqlite.specs.State.{State}
use Rattle.tables_schema.specs.Forms.{store_tables, piece, temp_root, names_store_table}
use Rattle.tables_schema.specs.Intact.{IsIntact, HasTables, tree_named}
use Rattle.tables_sql.specs.Contents.{Contents, contents_of, rows_named, rows_if_any}
use Rattle.tables_sql.specs.Texts.{IsReadable, AreReadableRows, HasReadableRows}
use Rattle.tables_sql.specs.Calls.{IsKeyed, IsStoreDatabase, HasFurther, KeepsFurther, KeepsForeignRows, Changes}
use Rattle.tables_sql.proofs.Writes.{SetsRows}
use Rattle.tables_sql.proofs.Truths.{and_so}

-- what holds of a table in the list holds at its place
list_all_at : (p : Table → Bool) (ts : List Table) (at : ℕ) (t : Table) → slice_get ts at ≡ Some t
    → list_all p ts ≡ true → p t ≡ true
list_all_at p ts at t present h = all-slice_get (λ x. p x ≡ true) ts at t present (each ts h)
  where
    each : (xs : List Table) → list_all p xs ≡ true → AllByRecursion (λ x. p x ≡ true) xs
    each [] h = tt
    each (x ∷ xs) h = let b = and_so _ _ h in (b.0, each xs b.1)

bytes_same : (a b : List ℕ) → bytes_eq a b ≡ true → a ≡ b
bytes_same a b h = (bytes_eq-Decides a b).0 h

-- the columns of the first table of a name
abbrev columns_named : Schema → List ℕ → List Column
columns_named s name =
    unwrap_or (option_map (λ (t : Table). t.columns) (option_and_then (slice_get s.tables) (table_named s name))) []

-- two tables of one name have the same columns
own_columns : (s : Schema) (t : Table) → IsIntact s t → columns_named s t.name ≡ t.columns
own_columns s t exists =
    ap (λ o. unwrap_or (option_map (λ (x : Table). x.columns) (option_and_then (slice_get s.tables) o)) [])
    exists.known.named.0
    ∙ ap (λ o. unwrap_or (option_map (λ (x : Table). x.columns) o) []) exists.known.named.1

one_form : (s : Schema) (t a : Table) → IsIntact s t → IsIntact s a → t.name ≡ a.name → t.columns ≡ a.columns
one_form s t a this that is = sym (own_columns s t this) ∙ ap (columns_named s) is ∙ own_columns s a that

module _ (s : Schema) (a : Table) (exists : IsIntact s a) where
  abbrev tree : ℕ
  tree = tree_named s a.name

  -- two of the store's tables have two trees
  pub distinct_rowids : (b : Table) → IsIntact s b → bytes_eq b.name a.name ≡ false → tree_named s b.name ≢ tree
  distinct_rowids b other names e =
      let idle = list_all_at _ s.tables other.at _ other.known.named.1 exists.idle in
      absurd (let f = rw (eq-eqb _ _ e, names) at idle in cc)

  kept : (p : Table → Type 0) (ts : List Table)
      → list_all (λ t. not (t.tree == tree) || bytes_eq t.name a.name) ts ≡ true
      → AllByRecursion (λ t. t.tree ≢ tree → p t) ts → names_store_table a.name ≡ true
      → AllByRecursion (λ t. names_store_table t.name ≡ false → p t) ts
  kept p [] idle h of_store = tt
  kept p (t ∷ ts) idle h of_store =
      (λ other. h.0 (λ e. differs e other (and_so _ _ idle).0), kept p ts (and_so _ _ idle).1 h.1 of_store)
    where
      differs : t.tree ≡ tree → names_store_table t.name ≡ false
          → (not (t.tree == tree) || bytes_eq t.name a.name) ≡ true → ⊥
      differs e other idle =
          let named : bytes_eq t.name a.name ≡ true = let f = idle in rw (eq-eqb _ _ e) at f in
          let is : t.name ≡ a.name = bytes_same _ _ named in
          absurd (let f = sym of_store ∙ ap names_store_table (sym is) ∙ other in cc)

  at_tree : (p : ℕ → Type 0) (b : Table) → IsIntact s b
      → AllByRecursion (λ (t : Table). t.tree ≢ tree → p t.tree) s.tables → tree_named s b.name ≢ tree
      → p (tree_named s b.name)
  at_tree p b other h =
      all-slice_get (λ (t : Table). t.tree ≢ tree → p t.tree) s.tables other.at _ other.known.named.1 h

-- after a write to the rows of one of the store's tables
module _ (a : Table) (old new : State) (rows : List Row) (exists : IsIntact old.now.schema a)
    (sets : SetsRows old new (tree_named old.now.schema a.name) rows) where
  pub own_rows : rows_named new.now a.name ≡ rows
  own_rows = ap (λ s. new.now.trees (tree_named s a.name)) sets.schema ∙ sets.rows_are

  -- each other table of the store has the rows that it had
  pub others_kept : (b : Table) → IsIntact old.now.schema b → bytes_eq b.name a.name ≡ false
      → rows_named new.now b.name ≡ rows_named old.now b.name
  others_kept b other names =
      ap (λ s. new.now.trees (tree_named s b.name)) sets.schema
      ∙ at_tree old.now.schema a exists (λ tree. new.now.trees tree ≡ old.now.trees tree) b other sets.others
      (distinct_rowids old.now.schema a exists b other names)

  -- and so has one of another name, if there is one
  pub if_any_kept : (name : List ℕ) → same_name a.name name ≡ false
      → rows_if_any new.now name ≡ rows_if_any old.now name
  unfolding rows_if_any
  if_any_kept name names =
      ap (λ (s : Schema). unwrap_or
      (option_map (λ (t : Table). new.now.trees t.tree) (find (λ (t : Table). same_name t.name name) s.tables))
      []) sets.schema
      ∙ walk old.now.schema.tables exists.idle sets.others
    where
      other : (t : Table) → (not (t.tree == tree_named old.now.schema a.name) || bytes_eq t.name a.name) ≡ true
          → same_name t.name name ≡ true → t.tree ≢ tree_named old.now.schema a.name
      other t idle is e =
          let named : bytes_eq t.name a.name ≡ true = let f = idle in rw (eq-eqb _ _ e) at f in
          absurd (let f = sym is ∙ ap (λ n. same_name n name) (bytes_same _ _ named) ∙ names in cc)

      walk : (ts : List Table) → list_all
          (λ t. not (t.tree == tree_named old.now.schema a.name) || bytes_eq t.name a.name) ts ≡ true
          → AllByRecursion (λ t. t.tree ≢ tree_named old.now.schema a.name
          → new.now.trees t.tree ≡ old.now.trees t.tree) ts
          → unwrap_or (option_map (λ (t : Table). new.now.trees t.tree)
          (find (λ (t : Table). same_name t.name name) ts)) []
          ≡ unwrap_or (option_map (λ (t : Table). old.now.trees t.tree)
          (find (λ (t : Table). same_name t.name name) ts)) []
      walk [] idle others = refl
      walk (t ∷ ts) idle others = go (same_name t.name name) refl (walk ts (and_so _ _ idle).1 others.1)
        where
          go : (b : Bool) → same_name t.name name ≡ b
              → unwrap_or (option_map (λ (t : Table). new.now.trees t.tree)
              (find (λ (t : Table). same_name t.name name) ts)) []
              ≡ unwrap_or (option_map (λ (t : Table). old.now.trees t.tree)
              (find (λ (t : Table). same_name t.name name) ts)) []
              → unwrap_or (option_map (λ (t : Table). new.now.trees t.tree)
              (cond b (Some t) (find (λ (t : Table). same_name t.name name) ts))) []
              ≡ unwrap_or (option_map (λ (t : Table). old.now.trees t.tree)
              (cond b (Some t) (find (λ (t : Table). same_name t.name name) ts))) []
          go true is later = others.0 (other t (and_so _ _ idle).0 is)
          go false is later = later

  -- and so has each of theirs
  pub foreign_kept : names_store_table a.name ≡ true → KeepsForeignRows old.now new.now
  foreign_kept =
      kept old.now.schema a exists (λ t. new.now.trees t.tree ≡ old.now.trees t.tree) old.now.schema.tables exists.idle
      sets.others

  -- what holds of the columns and the rows of each table of the store holds after the write, where the write keeps it
  -- of its own
  after : (P : List Column → List Row → Type 0) → (P a.columns (rows_named old.now a.name) → P a.columns rows)
      → (ts : List Table) → AllByRecursion (IsIntact old.now.schema) ts
      → AllByRecursion (λ t. P t.columns (rows_named old.now t.name)) ts
      → AllByRecursion (λ t. P t.columns (rows_named new.now t.name)) ts
  after P keeps [] has held = tt
  after P keeps (t ∷ ts) has held = (go (bytes_eq t.name a.name) refl, after P keeps ts has.1 held.1)
    where
      go : (b : Bool) → bytes_eq t.name a.name ≡ b → P t.columns (rows_named new.now t.name)
      go true e =
          let is : t.name ≡ a.name = bytes_same _ _ e in
          let same : t.columns ≡ a.columns = one_form old.now.schema t a has.0 exists is in
          subst₂ P (sym same) (sym (ap (rows_named new.now) is ∙ own_rows))
          (keeps (subst₂ P same (ap (rows_named old.now) is) held.0))
      go false e = subst (P t.columns) (sym (others_kept t has.0 e)) held.0

  pub store_kept : IsStoreDatabase old.now → (IsKeyed (rows_named old.now a.name) → IsKeyed rows)
      → (AreReadableRows a (rows_named old.now a.name) → AreReadableRows a rows) → IsStoreDatabase new.now
  unfolding HasReadableRows
  store_kept of_store keyed readable = record {
    sound = sets.sound;
    has = subst HasTables (sym sets.schema) of_store.has;
    keyed = after (λ columns rs. IsKeyed rs) keyed store_tables of_store.has of_store.keyed;
    readable =
        after (λ columns rs. (row : Row) (at : ℕ) → Has rs row → at < length columns → IsReadable (column row (at + 1)))
        readable store_tables of_store.has of_store.readable;
  }

  -- a further table that was there is there still
  pub further_kept : (IsKeyed (rows_named old.now a.name) → IsKeyed rows)
      → (AreReadableRows a (rows_named old.now a.name) → AreReadableRows a rows) → (t : Table) → HasFurther old.now t
      → HasFurther new.now t
  further_kept keyed readable t present = record {
    exists = subst (λ (s : Schema). IsIntact s t) (sym sets.schema) present.exists;
    keyed = (after (λ columns rs. IsKeyed rs) keyed (t ∷ []) (present.exists, tt) (present.keyed, tt)).0;
    readable =
        (after (λ columns rs. (row : Row) (at : ℕ) → Has rs row → at < length columns
        → IsReadable (column row (at + 1))) readable (t ∷ []) (present.exists, tt) (present.readable, tt)).0;
  }

  -- what the write makes of what the store's tables hold
  pub changed : (change : Contents → Contents) → IsStoreDatabase old.now
      → (IsKeyed (rows_named old.now a.name) → IsKeyed rows)
      → (AreReadableRows a (rows_named old.now a.name) → AreReadableRows a rows) → names_store_table a.name ≡ true
      → contents_of new.now ≡ change (contents_of old.now) → Changes old new change
  unfolding KeepsFurther
  changed change of_store keyed readable named contents = record {
    was_open = sets.was_open;
    is_open = sets.is_open;
    schema = sets.schema;
    contents = contents;
    foreign_rows = foreign_kept named;
    unshown = sets.unshown;
    of_store = store_kept of_store keyed readable;
    further = (further_kept keyed readable piece, (further_kept keyed readable temp_root, tt));
    committed = sets.committed;
    mode = sets.mode;
    marks = sets.marks;
  }
