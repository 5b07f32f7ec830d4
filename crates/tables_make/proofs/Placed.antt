-- The store's tables are where they were made, one after another, next to whatever tables there were.
use Rattle.std.proofs.Common.{◌≡◌, ◌<◌, ℕ, List, [], ◌∷◌, ◌++◌, map, Bool, true, false, not, ◌&&◌, ◌||◌, ◌==◌, Some}
use Rattle.std.proofs.Common.{None, Option, length, refl, sym, ap, subst, ◌∙◌, arith, bytes_eq, inl}
use Rattle.std.specs.Prelude.{slice_get, option_map, unwrap_or, find, nat_le, ◌^◌}
use Rattle.std.specs.List.{AllByRecursion, list_all}
use Rattle.std.specs.Option.{option_or}
use Rattle.std.specs.Ordering.{is_eq, nat_cmp}
use Rattle.std.specs.Cmp.{eq_by_cmp_equiv}
use Rattle.std.specs.Cmp.Lexicographic.{slice_cmp, nat_list_cmp_total}
use Rattle.std.proofs.lemmas.Bool.{eq-eqb, ne_eqb, lt-leb, and_right, and_from, or_right}
use Rattle.std.proofs.lemmas.List.Folds.{find-append}
use Rattle.sqlite_catalog.proofs.LayoutLemmas.{zipped_left, index_owner}
use Rattle.std.proofs.lemmas.Slice.Eq.{bytes_eq-Decides}
use Rattle.sqlite_trees.proofs.ListLemmas.{all-slice_get, all-append, all_weaker}
use Rattle.sqlite_schema.specs.declared.schema.Column.{Column}
use Rattle.sqlite_schema.specs.declared.schema.Schema.{Schema}
use Rattle.sqlite_schema.specs.declared.schema.Table.{Table}
use Rattle.sqlite_schema.specs.declared.schema.Index.{Index}
use Rattle.sqlite_schema.specs.declared.schema.Reference.{Reference}
use Rattle.sqlite_schema.specs.Names.{same_name}
use Rattle.sqlite_rules.proofs.ActionLemmas.{got_still}
use Rattle.sqlite_rules.proofs.ListLemmas.{all_has, all_from, test_has, test_from, test_push, has_right, has_found}
use Rattle.sqlite_rules.proofs.ListLemmas.{has_got}
use Rattle.sqlite_catalog.specs.Change.{created, next_tree}
use Rattle.sqlite_catalog.specs.Listing.{IsIndexRow, IsTableRow}
use Rattle.sqlite.specs.Effect.{Database, IsDatabase}
use Rattle.tables_schema.specs.Forms.{strict}
use Rattle.tables_schema.specs.Intact.{IsNamed, IsIntact, is_unreferred, is_unshared, is_unguarded, points_at}
use Rattle.tables_schema.specs.Intact.{tree_named}
use Rattle.tables_schema.specs.Presence.{IsFree}
use Rattle.tables_sql.specs.Contents.{Bytes}
use Rattle.tables_make.specs.NewTables.{all_created, placed, have_distinct_names}
use Rattle.tables_make.proofs.Creates.{placed_still, new_named, all_free_after, tree_is}
use Rattle.tables_make.proofs.Settles.{trees_below}
use Rattle.tables_sql.proofs.Truths.{and_so, not_so}
use Rattle.tables_sql.proofs.Finds.{found_by_place}

-- ---- names

same_swap : (a b : Bytes) → same_name a b ≡ same_name b a
unfolding same_name
same_swap a b = swapped (map _ a) (map _ b)
  where
    swapped : (x y : List ℕ) → is_eq (slice_cmp nat_cmp x y) ≡ is_eq (slice_cmp nat_cmp y x)
    swapped x y = (eq_by_cmp_equiv nat_list_cmp_total).symm x y

-- ---- lists

implied : {X : Type 0} (p q : X → Bool) → ((x : X) → p x ≡ true → q x ≡ true) → (xs : List X) → list_all p xs ≡ true
    → list_all q xs ≡ true
implied p q so xs h = test_from q xs (λ x present. so x (test_has p xs x h present))

tested : {X : Type 0} (P : X → Type 0) (q : X → Bool) → ((x : X) → P x → q x ≡ true) → (xs : List X)
    → AllByRecursion P xs → list_all q xs ≡ true
tested P q so xs h = test_from q xs (λ x present. so x (all_has P xs x h present))

found_still : {X : Type 0} (p : X → Bool) (xs : List X) (y x : X) → find p xs ≡ Some x → find p (xs ++ y ∷ []) ≡ Some x
found_still p xs y x h = rw (find-append p xs (y ∷ []), h) refl

found_last : {X : Type 0} (p : X → Bool) (xs : List X) (y : X) → AllByRecursion (λ x. p x ≡ false) xs → p y ≡ true
    → find p (xs ++ y ∷ []) ≡ Some y
found_last p [] y none is = rw is refl
found_last p (x ∷ xs) y none is = rw none.0 (found_last p xs y none.1 is)

-- ---- trees

others_off : (s : Schema) → AllByRecursion (λ t. (t.tree == next_tree s) ≡ false) s.tables
others_off s =
    all_weaker (λ (t : Table). t.tree < next_tree s) (λ t. (t.tree == next_tree s) ≡ false)
    (λ t low. ne_eqb t.tree (next_tree s) (λ e. absurd (omega (arith, low, e)))) s.tables (trees_below s)

-- each index is of a table with a tree below the next
abbrev pub AreLow : Schema → Type 0
AreLow s = AllByRecursion (λ i. i.table < next_tree s) s.indexes

-- ---- the table that a name finds

abbrev finds : ℕ → Option Table → Bool
finds tree o = unwrap_or (option_map (λ (p : Table). p.tree == tree) o) false

abbrev has_tree : ℕ → List Table → Bytes → Bool
has_tree tree tables name = finds tree (find (λ (t : Table). same_name t.name name) tables)

points_is : (s : Schema) (tree : ℕ) (r : Reference) → points_at s tree r ≡ has_tree tree s.tables r.parent
points_is s tree r = ap (finds tree) (found_by_place (λ (t : Table). same_name t.name r.parent) s.tables)

misses_none : (tree : ℕ) (ts : List Table) (name : Bytes) → AllByRecursion (λ t. (t.tree == tree) ≡ false) ts
    → has_tree tree ts name ≡ false
misses_none tree ts name off = go (find (λ (t : Table). same_name t.name name) ts) refl
  where
    go : (o : Option Table) → find (λ (t : Table). same_name t.name name) ts ≡ o → finds tree o ≡ false
    go None is = refl
    go (Some t) is = all_has (λ (u : Table). (u.tree == tree) ≡ false) ts t off (has_found _ ts t is).0

misses_both : (tree : ℕ) (ts : List Table) (new : Table) (name : Bytes) → has_tree tree ts name ≡ false
    → has_tree tree (new ∷ []) name ≡ false → has_tree tree (ts ++ new ∷ []) name ≡ false
misses_both tree ts new name h k =
    ap (finds tree) (find-append (λ (t : Table). same_name t.name name) ts (new ∷ []))
    ∙ go (find (λ (t : Table). same_name t.name name) ts) h
  where
    go : (o : Option Table) → finds tree o ≡ false
        → finds tree (option_or o (find (λ (t : Table). same_name t.name name) (new ∷ []))) ≡ false
    go None h = k
    go (Some t) h = h

-- ---- one table

-- a table is in the schema, by its name and by its tree, and nothing else acts on it
pub record ExistsAs (s : Schema) (t : Table) : Type 0 where
  pub at : ℕ
  pub named : IsNamed s t.name at t
  pub by_tree : find (λ u. u.tree == t.tree) s.tables ≡ Some t
  pub unreferred : is_unreferred s t.tree ≡ true
  pub idle : is_unshared s t.name t.tree ≡ true
  pub unguarded : is_unguarded s t.tree t.primary ≡ true

guarded_by_none : (unique same : Bool) (x : Bool) → same ≡ false → (not (unique && same) || x) ≡ true
guarded_by_none unique same x h = rw (and_right unique same h) refl

same_bytes : (a : Bytes) → bytes_eq a a ≡ true
same_bytes a = (bytes_eq-Decides a a).1 refl

module _ (s : Schema) (title : Bytes) (cs : List Column) (key : List ℕ) where
  abbrev new : Table
  new = record (strict title cs key) { tree = next_tree s }

  abbrev after : Schema
  after = created s (strict title cs key)

  new_below : next_tree s < next_tree after
  new_below =
      all_has (λ (t : Table). t.tree < next_tree after) (s.tables ++ new ∷ []) new (trees_below after)
      (has_right s.tables (new ∷ []) new (inl refl))

  low_after : AreLow s → AreLow after
  low_after low =
      all-append (λ (i : Index). i.table < next_tree after) s.indexes _
      (all_weaker (λ (i : Index). i.table < next_tree s) (λ i. i.table < next_tree after)
      (λ i k. omega (arith, new_below, k)) s.indexes low) (new_below, tt)

  -- the one that was made is there
  new_exists : IsFree s title → AreLow s → ExistsAs after new
  new_exists free low = record {
    at = length s.tables;
    named = new_named s title cs key free.table;
    by_tree =
        found_last (λ (u : Table). u.tree == next_tree s) s.tables new (others_off s)
        (eq-eqb (next_tree s) (next_tree s) refl);
    unreferred =
        test_push (λ (t : Table). list_all (λ (r : Reference). not (points_at after (next_tree s) r)) t.references)
        s.tables new
        (implied (λ (t : Table). list_all (λ (r : Reference). not (same_name r.parent title)) t.references)
        (λ (t : Table). list_all (λ (r : Reference). not (points_at after (next_tree s) r)) t.references)
        (λ t. implied (λ (r : Reference). not (same_name r.parent title))
        (λ (r : Reference). not (points_at after (next_tree s) r))
        (λ r other. ap not (points_is after (next_tree s) r
        ∙ misses_both (next_tree s) s.tables new r.parent
        (misses_none (next_tree s) s.tables r.parent (others_off s))
        (rw (same_swap title r.parent ∙ not_so _ other) refl))) t.references)
        s.tables free.unawaited) refl;
    idle =
        test_push (λ (t : Table). not (t.tree == next_tree s) || bytes_eq t.name title) s.tables new
        (tested (λ (t : Table). (t.tree == next_tree s) ≡ false)
        (λ (t : Table). not (t.tree == next_tree s) || bytes_eq t.name title) (λ t off. rw off refl) s.tables
        (others_off s)) (or_right _ _ (same_bytes title));
    unguarded =
        test_push (λ (i : Index). not (i.is_unique && (i.table == next_tree s))
        || (bytes_eq i.columns key && (i.order.digits == 0))) s.indexes _
        (tested (λ (i : Index). i.table < next_tree s)
        (λ (i : Index). not (i.is_unique && (i.table == next_tree s))
        || (bytes_eq i.columns key && (i.order.digits == 0)))
        (λ i below. guarded_by_none i.is_unique _ _
        (ne_eqb i.table (next_tree s) (λ e. absurd (omega (arith, below, e))))) s.indexes low)
        (or_right (not (true && (next_tree s == next_tree s))) (bytes_eq key key && true)
        (and_from (bytes_eq key key) true (same_bytes key) refl));
  }

  -- the others are there still
  exists_still : (t : Table) → ExistsAs s t → ExistsAs after t
  exists_still t it =
      let below : t.tree < next_tree s =
      all-slice_get (λ (u : Table). u.tree < next_tree s) s.tables it.at t it.named.1 (trees_below s) in
      let off : (next_tree s == t.tree) ≡ false = ne_eqb (next_tree s) t.tree (λ e. absurd (omega (arith, below, e))) in
      record {
        at = it.at;
        named = (
          placed_still (λ (u : Table). same_name u.name t.name) s.tables new 0 it.at it.named.0,
          got_still s.tables (new ∷ []) (s.tables ++ new ∷ []) it.at t refl it.named.1,
        );
        by_tree = found_still (λ (u : Table). u.tree == t.tree) s.tables new t it.by_tree;
        unreferred =
            test_push (λ (u : Table). list_all (λ (r : Reference). not (points_at after t.tree r)) u.references)
            s.tables new
            (implied (λ (u : Table). list_all (λ (r : Reference). not (points_at s t.tree r)) u.references)
            (λ (u : Table). list_all (λ (r : Reference). not (points_at after t.tree r)) u.references)
            (λ u. implied (λ (r : Reference). not (points_at s t.tree r))
            (λ (r : Reference). not (points_at after t.tree r))
            (λ r other. ap not (points_is after t.tree r
            ∙ misses_both t.tree s.tables new r.parent (sym (points_is s t.tree r) ∙ not_so _ other)
            (misses_none t.tree (new ∷ []) r.parent (off, tt)))) u.references)
            s.tables it.unreferred) refl;
        idle =
            test_push (λ (u : Table). not (u.tree == t.tree) || bytes_eq u.name t.name) s.tables new it.idle
            (rw off refl);
        unguarded =
            test_push (λ (i : Index). not (i.is_unique && (i.table == t.tree))
            || (bytes_eq i.columns t.primary && (i.order.digits == 0))) s.indexes _ it.unguarded
            (guarded_by_none true _ _ off);
      }

-- ---- one after another

-- the name, the columns and the key of each
abbrev pub Parts : Type 0
Parts = Bytes × (List Column × List ℕ)

abbrev pub table_of : Parts → Table
table_of f = strict f.0 f.1.0 f.1.1

-- a table that was there is there still
pub all_still : (s : Schema) (fs : List Parts) (t : Table) → ExistsAs s t → ExistsAs (all_created s (map table_of fs)) t
all_still s [] t it = it
all_still s (f ∷ fs) t it = all_still (created s (table_of f)) fs t (exists_still s f.0 f.1.0 f.1.1 t it)

-- each that was made is there in the end
pub all_exist : (s : Schema) (fs : List Parts) → have_distinct_names (map table_of fs) ≡ true
    → AllByRecursion (λ t. IsFree s t.name) (map table_of fs) → AreLow s
    → AllByRecursion (ExistsAs (all_created s (map table_of fs))) (placed s (map table_of fs))
all_exist s [] clear free low = tt
all_exist s (f ∷ fs) clear free low =
    let b = and_so _ _ clear in (
      all_still (created s (table_of f)) fs (record (table_of f) { tree = next_tree s })
          (new_exists s f.0 f.1.0 f.1.1 free.0 low),
      all_exist (created s (table_of f)) fs b.1 (all_free_after s f.0 f.1.0 f.1.1 (map table_of fs) b.0 free.1)
          (low_after s f.0 f.1.0 f.1.1 low),
    )

-- ---- in a database that lists its schema

pub are_low : (db : Database) → IsDatabase db → AreLow db.schema
are_low db sound = all_from (λ (i : Index). i.table < next_tree db.schema) db.schema.indexes (λ i present.
    let row = (zipped_left (IsIndexRow db.schema.tables) _ db.schema.indexes i sound.lists.listed.indexes present).2 in
    let below =
    all_has (λ (t : Table). t.tree < next_tree db.schema) db.schema.tables row.table (trees_below db.schema)
    row.listed in
    omega (arith, index_owner row.table i _ row.defined, below))

tree_low : (db : Database) → IsDatabase db → (at : ℕ) (t : Table) → slice_get db.schema.tables at ≡ Some t
    → nat_le (2 ^ 31) t.tree ≡ false
tree_low db sound at t present =
    let row =
    (zipped_left IsTableRow _ db.schema.tables t sound.lists.listed.tables
    (has_got db.schema.tables at t present)).2 in
    lt-leb (2 ^ 31) t.tree (omega (arith, row.described.low))

pub one_exists : (db : Database) → IsDatabase db → (f : Parts) (tree : ℕ)
    → ExistsAs db.schema (record (table_of f) { tree = tree }) → IsIntact db.schema (table_of f)
one_exists db sound f tree it =
    let now =
    subst (λ n. ExistsAs db.schema (record (table_of f) { tree = n }))
    (sym (tree_is db.schema (record (table_of f) { tree = tree }) it.at it.named)) it in
    record {
      at = now.at;
      known = record {
        named = now.named;
        by_tree = now.by_tree;
        low = tree_low db sound now.at _ now.named.1;
      };
      unreferred = now.unreferred;
      idle = now.idle;
      unguarded = now.unguarded;
    }

pub each_exists : (db : Database) → IsDatabase db → (s : Schema) (fs : List Parts)
    → AllByRecursion (ExistsAs db.schema) (placed s (map table_of fs))
    → AllByRecursion (IsIntact db.schema) (map table_of fs)
each_exists db sound s [] h = tt
each_exists db sound s (f ∷ fs) h =
    (one_exists db sound f (next_tree s) h.0, each_exists db sound (created s (table_of f)) fs h.1)

-- what holds of the trees of those made holds of the trees that their names find
pub by_names : (p : ℕ → Type 0) (end s : Schema) (fs : List Parts)
    → AllByRecursion (ExistsAs end) (placed s (map table_of fs))
    → AllByRecursion (λ t. p t.tree) (placed s (map table_of fs))
    → AllByRecursion (λ t. p (tree_named end t.name)) (map table_of fs)
by_names p end s [] it h = tt
by_names p end s (f ∷ fs) it h =
    (subst p (sym (tree_is end _ it.0.at it.0.named)) h.0, by_names p end (created s (table_of f)) fs it.1 h.1)
