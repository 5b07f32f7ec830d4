-- What the schema doesn't show is kept, by an INSERT, by a DELETE, and by one CREATE TABLE after another.
use Rattle.std.proofs.Common.{◌≡◌, ◌≢◌, inl, inr, ◌<◌, ◌≤◌, ◌+◌, ◌%◌, ℕ, pos, List, [], ◌∷◌, Bool, true, false, cond}
use Rattle.std.proofs.Common.{Some, None, Option, refl, sym, ap, subst, ◌∙◌, arith}
use Rattle.std.specs.Prelude.{find, unwrap_or, IsSome}
use Rattle.sqlite_value.specs.Order.{Row, column}
use Rattle.sqlite_value.specs.declared.value.Value.TheVariants.{Int}
use Rattle.sqlite_trees.specs.Tree.{Trees, has_rowid}
use Rattle.sqlite_trees.specs.Objects.{catalog_tree, version_tree, number_in}
use Rattle.sqlite_schema.specs.declared.schema.Schema.{Schema}
use Rattle.sqlite_schema.specs.declared.schema.Table.{Table}
use Rattle.sqlite_schema.specs.declared.schema.Index.{Index}
use Rattle.sqlite_schema.specs.declared.schema.View.{View as Stored}
use Rattle.sqlite_rules.specs.Lists.{Has}
use Rattle.sqlite_rules.proofs.ListLemmas.{all_has, all_from, has_filtered, has_kept, has_found}
use Rattle.sqlite_catalog.specs.Listing.{IsAside, IsTableRow, IsIndexRow, IsViewRow, is_table_row, is_index_row}
use Rattle.sqlite_catalog.specs.Listing.{is_view_row}
use Rattle.sqlite_catalog.proofs.LayoutLemmas.{zipped_left, zipped_right, has_own_rowid, same_rowid, row_kind}
use Rattle.sqlite.specs.Effect.{Database, IsDatabase, SparesFrozen}
use Rattle.tables_sql.specs.Frozen.{IsUnshown, KeepsUnshown, IsFrozen, KeepsFrozen}

-- ---- what the schema doesn't show

-- the trees that the schema shows have small numbers
high : (db : Database) → IsDatabase db → (tree : ℕ) → 65536 ≤ tree → IsUnshown db.schema tree
high db sound tree above =
    let listed = sound.lists.listed in (
      all_from (λ (t : Table). t.tree ≢ tree) db.schema.tables
          (λ t h. let r = zipped_left IsTableRow _ db.schema.tables t listed.tables h in
          λ e. absurd (omega (arith, r.2.described.low, above, e))),
      all_from (λ (i : Index). i.tree ≢ tree) db.schema.indexes
          (λ i h. let r = zipped_left (IsIndexRow db.schema.tables) _ db.schema.indexes i listed.indexes h in
          λ e. absurd (omega (arith, r.2.described.low, above, e))),
    )

-- a write that keeps all that the schema doesn't show keeps the list of objects
pub listed_of : (old : Database) (trees : Trees) → IsDatabase old → KeepsUnshown old trees
    → trees catalog_tree ≡ old.trees catalog_tree
listed_of old trees sound keeps = keeps catalog_tree (high old sound catalog_tree (omega arith))

-- and what is frozen
pub frozen_of : (old : Database) (trees : Trees) → IsDatabase old → KeepsUnshown old trees → KeepsFrozen old trees
frozen_of old trees sound keeps =
    let list = listed_of old trees sound keeps in
    record {
      rows = λ tree is. keeps tree is.unshown;
      texts = λ row present foreign. subst (λ rows. Has rows row) (sym list) present;
      version = keeps version_tree (high old sound version_tree (omega arith));
    }

-- ---- what is frozen is listed so

some_found : {X : Type 0} (p : X → Bool) (xs : List X) (x : X) → Has xs x → p x ≡ true → find p xs ≡ None → ⊥
some_found p [] x h is none = absurd h
some_found {X} p (y ∷ xs) x h is none = go (p y) refl none h (some_found p xs x)
  where
    go : (b : Bool) → p y ≡ b → ◌≡◌ {A = Option X} (cond b (Some y) (find p xs)) None → Has (y ∷ xs) x
        → (Has xs x → p x ≡ true → find p xs ≡ None → ⊥) → ⊥
    go true same e k later = absurd (let f = e in cc)
    go false same e (inl one) later = absurd (let f = sym is ∙ ap p one ∙ same in cc)
    go false same e (inr present) later = later present is e

aside_code : (row : Row) (w : Stored) (kind owner : List ℕ) (code : ℕ) (foreign : Option (List ℕ)) → IsSome foreign
    → w.binds ≡ false → IsAside row w kind owner code foreign → 4 ≤ code % 8
aside_code row w kind owner code None some free h = absurd (let f = some in cc)
aside_code row w kind owner code (Some table) some free h = elim h.2 [
  | inl a ↦ elim a.1 [ inl four ↦ omega (arith, four) | inr five ↦ omega (arith, five) ]
  | inr (inl b) ↦ omega (arith, b.1)
  | inr (inr d) ↦ absurd (let e = sym free ∙ d.2 in cc)
]

listed_code : (db : Database) → IsDatabase db → (tree : ℕ) → IsFrozen db.schema tree → (o : Option Row)
    → find (has_rowid (pos (tree + 1))) (db.trees catalog_tree) ≡ o → 4 ≤ number_in (column (unwrap_or o []) 5) % 8
listed_code db sound tree is None e =
    let r = zipped_left IsViewRow _ db.schema.views is.object sound.lists.listed.views is.exists in
    let own = has_own_rowid r.0 (tree + 1) (r.2.described.id ∙ ap (λ n. Int (pos (n + 1))) is.its) in
    absurd (some_found (has_rowid (pos (tree + 1))) (db.trees catalog_tree) r.0
    (has_filtered is_view_row (db.trees catalog_tree) r.0 r.1).0 own e)
listed_code db sound tree is (Some row) e =
    let objects = db.trees catalog_tree in
    let listed = sound.lists.listed in
    let found = has_found (has_rowid (pos (tree + 1))) objects row e in
    elim (row_kind row) [
      | inl table ↦
          let r =
          zipped_right IsTableRow _ db.schema.tables row listed.tables
          (has_kept is_table_row objects row found.0 table) in
          absurd (all_has (λ (t : Table). t.tree ≢ tree) db.schema.tables r.0 is.unshown.0 r.1
          (omega (arith, same_rowid row _ _ r.2.described.id found.1)))
      | inr (inl index) ↦
          let r =
          zipped_right (IsIndexRow db.schema.tables) _ db.schema.indexes row listed.indexes
          (has_kept is_index_row objects row found.0 index) in
          absurd (all_has (λ (i : Index). i.tree ≢ tree) db.schema.indexes r.0 is.unshown.1 r.1
          (omega (arith, same_rowid row _ _ r.2.described.id found.1)))
      | inr (inr view) ↦
          let r =
          zipped_right IsViewRow _ db.schema.views row listed.views
          (has_kept is_view_row objects row found.0 view) in
          let aside =
          all_has (λ (w : Stored). w.tree ≡ tree → IsSome w.foreign × (w.binds ≡ false)) db.schema.views r.0
          is.aside r.1 (omega (arith, same_rowid row _ _ r.2.described.id found.1)) in
          subst (λ c. 4 ≤ c % 8) (sym r.2.described.shape_is)
          (aside_code row r.0 r.2.kind r.2.owner r.2.code r.0.foreign aside.0 aside.1 r.2.aside)
    ]

low : (db : Database) → IsDatabase db → (tree : ℕ) → IsFrozen db.schema tree → tree < 65536
low db sound tree is = let r =
    zipped_left IsViewRow _ db.schema.views is.object sound.lists.listed.views is.exists in
    omega (arith, r.2.described.low, is.its)

-- what one statement spares
pub spared : (old new : Database) → IsDatabase old → SparesFrozen old new → KeepsFrozen old new.trees
spared old new sound h = record {
  rows = λ tree is.
      let below =
      low old sound tree is in h.rows tree (λ e. absurd (omega (arith, below, e)))
      (λ e. absurd (omega (arith, below, e))) (listed_code old sound tree is _ refl);
  texts = h.texts;
  version = h.version;
}

-- ---- one after another

-- two in a row keep what is frozen for both
pub frozen_both : (a b : Database) (trees : Trees) → ((tree : ℕ) → IsFrozen a.schema tree → IsFrozen b.schema tree)
    → KeepsFrozen a b.trees → KeepsFrozen b trees → KeepsFrozen a trees
frozen_both a b trees still h k = record {
  rows = λ tree is. k.rows tree (still tree is) ∙ h.rows tree is;
  texts = λ row present foreign. k.texts row (h.texts row present foreign) foreign;
  version = k.version ∙ h.version;
}

pub frozen_next : (a b : Database) (trees : Trees) → b.schema ≡ a.schema → KeepsFrozen a b.trees → KeepsFrozen b trees
    → KeepsFrozen a trees
frozen_next a b trees same = frozen_both a b trees (λ tree. subst (λ (s : Schema). IsFrozen s tree) (sym same))
