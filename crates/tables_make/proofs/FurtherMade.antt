-- The store's tables hold what they held once further tables are made next to them, and those are there.
use Rattle.std.proofs.Common.{◌≡◌, List, [], ◌∷◌, map, true, false, refl, sym, ap, subst, ◌∙◌, IsTrue}
use Rattle.std.specs.Fmt.{digits}
use Rattle.std.specs.List.{AllByRecursion}
use Rattle.sqlite_trees.proofs.ListLemmas.{all-slice_get, all_weaker, all_both, all-map, all_from_map}
use Rattle.sqlite_schema.specs.declared.schema.Schema.{Schema}
use Rattle.sqlite_schema.specs.declared.schema.Table.{Table}
use Rattle.sqlite_tied.specs.Compute.{everything}
use Rattle.sqlite.specs.Does.{lacks_sequence}
use Rattle.sqlite.specs.Effect.{Database, IsDatabase}
use Rattle.sqlite.specs.State.{State}
use Rattle.tables_schema.specs.Forms.{piece, temp_root, store_tables}
use Rattle.tables_schema.specs.Intact.{IsIntact, tree_named}
use Rattle.tables_schema.specs.Presence.{IsFree, HasFirst, HasSecond}
use Rattle.tables_sql.specs.Contents.{rows_named, rows_if_any}
use Rattle.tables_sql.specs.Texts.{AreReadableRows, HasReadableRows}
use Rattle.tables_sql.specs.Calls.{IsKeyed, IsStoreDatabase, HasFurther, KeepsFurther, IsUnderWay}
use Rattle.tables_sql.proofs.Contents.{contents_alike}
use Rattle.tables_make.proofs.Creates.{tables_after, tree_is}
use Rattle.tables_sql.proofs.FurtherTables.{if_any_named, if_any_free}
use Rattle.tables_make.specs.NewTables.{IsMaking, Makes, all_created, have_distinct_names, placed}
use Rattle.tables_make.specs.Further.{MakesFurther, grown}
use Rattle.tables_sql.specs.Rowids.{NumberOn, NumbersOn}
use Rattle.tables_sql.proofs.Lists.{two_lists}
use Rattle.tables_sql.proofs.Rowids.{none_numbers_on, same_numbers_on}
use Rattle.tables_make.proofs.Made.{nine, made_further, foreign_of}
use Rattle.tables_make.proofs.MakingTogether.{part}
use Rattle.tables_make.proofs.Settles.{making_free}
use Rattle.tables_make.proofs.Placed.{Parts, table_of, ExistsAs, all_still, all_exist, one_exists, each_exists}
use Rattle.tables_make.proofs.Placed.{by_names, are_low}

-- ---- the tables that were there

as_it_exists : (s : Schema) (t : Table) → IsIntact s t → ExistsAs s (record t { tree = tree_named s t.name })
as_it_exists s t it =
    record {
      at = it.at;
      named = it.known.named;
      by_tree = it.known.by_tree;
      unreferred = it.unreferred;
      idle = it.idle;
      unguarded = it.unguarded;
    }

module _ (a b : Database) (sound : IsDatabase b) (fs : List Parts)
    (made : b.schema ≡ all_created a.schema (map table_of fs))
    (kept : AllByRecursion (λ t. b.trees t.tree ≡ a.trees t.tree) a.schema.tables) where
  stays : (f : Parts) → IsIntact a.schema (table_of f)
      → ExistsAs b.schema (record (table_of f) { tree = tree_named a.schema f.0 })
  stays f it =
      let t : Table = record (table_of f) { tree = tree_named a.schema f.0 } in
      subst (λ (s : Schema). ExistsAs s t) (sym made) (all_still a.schema fs t (as_it_exists a.schema (table_of f) it))

  still_exists : (f : Parts) → IsIntact a.schema (table_of f) → IsIntact b.schema (table_of f)
  still_exists f it = one_exists b sound f (tree_named a.schema f.0) (stays f it)

  rows_still : (f : Parts) → IsIntact a.schema (table_of f) → rows_named b f.0 ≡ rows_named a f.0
  rows_still f it =
      let t : Table = record (table_of f) { tree = tree_named a.schema f.0 } in
      let now = stays f it in
      ap b.trees (tree_is b.schema t now.at now.named)
      ∙ all-slice_get (λ (u : Table). b.trees u.tree ≡ a.trees u.tree) a.schema.tables it.at t it.known.named.1 kept

  same_rows : AllByRecursion (IsIntact a.schema) store_tables
      → AllByRecursion (λ t. rows_named b t.name ≡ rows_named a t.name) store_tables
  same_rows has = all-map (λ (t : Table). rows_named b t.name ≡ rows_named a t.name) table_of nine
      (all_weaker (λ f. IsIntact a.schema (table_of f)) (λ f. rows_named b f.0 ≡ rows_named a f.0) rows_still nine
      (all_from_map (IsIntact a.schema) table_of nine has))

  store_still : IsStoreDatabase a → IsStoreDatabase b
  unfolding HasReadableRows
  store_still of_store =
      let Same = λ (t : Table). rows_named b t.name ≡ rows_named a t.name in
      let same = same_rows of_store.has in
      record {
        sound = sound;
        has =
            all-map (IsIntact b.schema) table_of nine
            (all_weaker (λ f. IsIntact a.schema (table_of f)) (λ f. IsIntact b.schema (table_of f)) still_exists nine
            (all_from_map (IsIntact a.schema) table_of nine of_store.has));
        keyed =
            all_both Same (λ t. IsKeyed (rows_named a t.name)) (λ t. IsKeyed (rows_named b t.name))
            (λ t is. subst IsKeyed (sym is)) store_tables same of_store.keyed;
        readable =
            all_both Same (λ t. AreReadableRows t (rows_named a t.name)) (λ t. AreReadableRows t (rows_named b t.name))
            (λ t is. subst (AreReadableRows t) (sym is)) store_tables same of_store.readable;
      }

  further_still : (f : Parts) → HasFurther a (table_of f) → HasFurther b (table_of f)
  further_still f it = record {
    exists = still_exists f it.exists;
    keyed = subst IsKeyed (sym (rows_still f it.exists)) it.keyed;
    readable = subst (AreReadableRows (table_of f)) (sym (rows_still f it.exists)) it.readable;
  }

-- ---- the tables that were made

-- what a further table holds stays, and it is there if it was
pub record IsKept (a b : Database) (t : Table) : Type 0 where
  pub rows : rows_if_any b t.name ≡ rows_if_any a t.name
  pub exists : HasFurther a t → HasFurther b t

module _ (fs : List Parts) (apart : have_distinct_names (map table_of fs) ≡ true) (a b : State) (under : IsUnderWay a)
    (free : AllByRecursion (λ t. IsFree a.now.schema t.name) (map table_of fs)) (h : Makes (map table_of fs) a b) where
  abbrev of_store : IsStoreDatabase a.now
  of_store = under.of_store h.was_open

  made : AllByRecursion (ExistsAs b.now.schema) (placed a.now.schema (map table_of fs))
  made =
      subst (λ (s : Schema). AllByRecursion (ExistsAs s) (placed a.now.schema (map table_of fs))) (sym h.schema)
      (all_exist a.now.schema fs apart free (are_low a.now of_store.sound))

  -- each is there, with no row
  pub these : AllByRecursion (λ t. HasFurther b.now t × (rows_named b.now t.name ≡ [])) (map table_of fs)
  these =
      all_both (IsIntact b.now.schema) (λ t. rows_named b.now t.name ≡ [])
      (λ t. HasFurther b.now t × (rows_named b.now t.name ≡ []))
      (λ t stand none. (made_further b.now t stand none, none)) (map table_of fs)
      (each_exists b.now h.sound a.now.schema fs made)
      (by_names (λ n. b.now.trees n ≡ []) b.now.schema a.now.schema fs made h.empty)

  -- neither before nor after is there a row
  pub new_kept : (t : Table) → IsFree a.now.schema t.name → HasFurther b.now t × (rows_named b.now t.name ≡ [])
      → IsKept a.now b.now t
  new_kept t unused it =
      record {
        rows = if_any_named b.now t it.0.exists ∙ it.1 ∙ sym (if_any_free a.now t.name unused);
        exists = λ present. it.0;
      }

  pub old_kept : (f : Parts) → IsIntact a.now.schema (table_of f) → IsKept a.now b.now (table_of f)
  old_kept f exists = record {
    rows =
        if_any_named b.now (table_of f) (still_exists a.now b.now h.sound fs h.schema h.kept f exists)
        ∙ rows_still a.now b.now h.sound fs h.schema h.kept f exists ∙ sym (if_any_named a.now (table_of f) exists);
    exists = further_still a.now b.now h.sound fs h.schema h.kept f;
  }

  -- no table has a row that it didn't have
  numbered : NumbersOn 0 (grown (map table_of fs) a.now) b.now
  numbered =
      let P : Table → Type 0 = λ t. NumberOn 0 (a.now.trees t.tree) (b.now.trees t.tree) in
      let were =
      all_weaker (λ (t : Table). b.now.trees t.tree ≡ a.now.trees t.tree) P
      (λ t. same_numbers_on 0 (a.now.trees t.tree) (b.now.trees t.tree)) a.now.schema.tables h.kept in
      let are =
      all_weaker (λ (t : Table). b.now.trees t.tree ≡ []) P
      (λ t. none_numbers_on 0 (a.now.trees t.tree) (b.now.trees t.tree)) (placed a.now.schema (map table_of fs))
      h.empty in
      subst (λ (ts : List Table). AllByRecursion P ts) (sym (tables_after a.now.schema (map table_of fs)))
      (two_lists P a.now.schema.tables (placed a.now.schema (map table_of fs)) were are)

  pub makes_further : IsKept a.now b.now piece → IsKept a.now b.now temp_root → MakesFurther (map table_of fs) a b
  unfolding KeepsFurther
  makes_further pieces temp_roots = record {
    was_open = h.was_open;
    is_open = h.is_open;
    schema = h.schema;
    contents =
        contents_alike (rows_named b.now) (rows_named a.now) _ _ _ _
        (same_rows a.now b.now h.sound fs h.schema h.kept of_store.has) pieces.rows temp_roots.rows;
    foreign_rows = foreign_of a.now b.now.trees a.now.schema.tables h.kept;
    frozen = h.frozen of_store.sound;
    of_store = store_still a.now b.now h.sound fs h.schema h.kept of_store;
    exist =
        all_weaker (λ (t : Table). HasFurther b.now t × (rows_named b.now t.name ≡ [])) (HasFurther b.now)
        (λ t it. it.0) (map table_of fs) these;
    numbers = numbered;
    further = (pieces.exists, (temp_roots.exists, tt));
    committed = h.committed;
    mode = h.mode;
  }

-- ---- in a transaction

pub makes_both : (a b : State) → IsUnderWay a → HasFirst a.now.schema → Makes (piece ∷ temp_root ∷ []) a b
    → MakesFurther (piece ∷ temp_root ∷ []) a b
unfolding digits everything
makes_both a b under first h =
    let fs = part piece ∷ part temp_root ∷ [] in
    let free : AllByRecursion (λ t. IsFree a.now.schema t.name) (piece ∷ temp_root ∷ []) = (first.1, (first.2, tt)) in
    let it = these fs refl a b under free h in
    makes_further fs refl a b under free h (new_kept fs refl a b under free h piece first.1 it.0)
    (new_kept fs refl a b under free h temp_root first.2 it.1.0)

pub makes_last : (a b : State) → IsUnderWay a → HasSecond a.now.schema → Makes (temp_root ∷ []) a b
    → MakesFurther (temp_root ∷ []) a b
unfolding digits everything
makes_last a b under second h =
    let fs = part temp_root ∷ [] in
    let free : AllByRecursion (λ t. IsFree a.now.schema t.name) (temp_root ∷ []) = (second.2, tt) in
    makes_further fs refl a b under free h (old_kept fs refl a b under free h (part piece) second.1)
    (new_kept fs refl a b under free h temp_root second.2 (these fs refl a b under free h).0)

pub making_further : (ts : List Table) (s : State) → IsUnderWay s
    → (IsTrue s.is_open → AllByRecursion (λ t. IsFree s.now.schema t.name) ts × (lacks_sequence s.now.schema ≡ false))
    → IsMaking ts s
making_further ts s under free = making_free ts s (λ up. (under.of_store up).sound) free under.mode
