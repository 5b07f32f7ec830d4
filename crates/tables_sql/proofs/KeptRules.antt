-- Which rules of a database a write to one of the store's tables keeps.
use Rattle.std.proofs.Common.{◌≡◌, ◌≢◌, ◌⊎◌, inl, inr, ℕ, List, [], true, false, not, ◌||◌, ◌==◌, map, Some, None}
use Rattle.std.proofs.Common.{Option, refl, sym, ap, subst, ◌∙◌, eq-eqb, bytes_eq}
use Rattle.std.specs.Prelude.{find, option_and_then, option_map, unwrap_or}
use Rattle.std.specs.List.{list_all, position_from}
use Rattle.std.specs.Char.{to_ascii_lowercase}
use Rattle.std.specs.Ordering.{is_eq, nat_cmp}
use Rattle.std.specs.Cmp.Lexicographic.{slice_cmp}
use Rattle.std.proofs.lemmas.Bool.{and_parts, and_from, or_left, not-true, not_from_false, both_ways, cases_eq}
use Rattle.std.proofs.lemmas.Bool.{false_from_ne_true, ne_eqb}
use Rattle.std.proofs.lemmas.Slice.Eq.{bytes_eq-Decides}
use Rattle.sqlite_value.specs.declared.keys.Order.{Order}
use Rattle.sqlite_value.specs.Order.{Row}
use Rattle.sqlite_trees.specs.Tree.{Trees, with_tree}
use Rattle.sqlite_schema.specs.declared.schema.Schema.{Schema}
use Rattle.sqlite_schema.specs.declared.schema.Table.{Table}
use Rattle.sqlite_schema.specs.declared.schema.Reference.{Reference}
use Rattle.sqlite_schema.specs.declared.schema.Constraint.TheVariants.{Unique}
use Rattle.sqlite_schema.specs.declared.schema.Among.TheVariants.{All}
use Rattle.sqlite_schema.specs.Names.{same_name, table_named}
use Rattle.sqlite_schema.specs.Rules.{Keeps, Refers, clashes, ParentKey, key_in, key_places, parent_key, has_null}
use Rattle.sqlite_schema.specs.Rules.{is_held, has_parent, is_key_if_to}
use Rattle.sqlite_rules.specs.Lists.{Has}
use Rattle.sqlite_rules.proofs.ListLemmas.{test_has, test_from, some_has, some_from, has_found, has_got}
use Rattle.sqlite_rules.proofs.RuleLemmas.{keeps_at, keeps_from, refers_at, refers_from, key_tree}
use Rattle.sqlite_catalog.proofs.SoundLemmas.{lowered}
use Rattle.sqlite_catalog.proofs.StepLemmas.{named_once}
use Rattle.sqlite.specs.Effect.{Database, IsDatabase}
use Rattle.tables_schema.specs.Intact.{IsNamed, IsIntact, points_at, is_unreferred, tree_named}
use Rattle.tables_sql.proofs.Finds.{found_by_place}

-- ---- the tables, with the rows of one changed

pub set_here : (db : Trees) (tree : ℕ) (rows : List Row) (t : ℕ) → t ≡ tree → with_tree db tree rows t ≡ rows
set_here db tree rows t same = rw (eq-eqb t tree same) refl

pub set_other : (db : Trees) (tree : ℕ) (rows : List Row) (t : ℕ) → t ≢ tree → with_tree db tree rows t ≡ db t
set_other db tree rows t other = rw (ne_eqb t tree other) refl

-- ---- UNIQUE

more_clash : (o : Order) (places : List ℕ) (some all : List Row) (row : Row) → ((r : Row) → Has some r → Has all r)
    → clashes o places some row ≡ true → clashes o places all row ≡ true
more_clash o places some all row are h = let c = some_has _ some h in some_from _ all c.0 (are c.0 c.1) c.2

-- rows that go leave no two of one key
pub unique_fewer : (s : Schema) (old new : Trees)
    → ((t : Table) (r : Row) → Has s.tables t → Has (new t.tree) r → Has (old t.tree) r) → Keeps Unique s old
    → Keeps Unique s new
unique_fewer s old new was keeps =
    keeps_from Unique s new (λ t row listed present. test_from _ s.indexes
    (λ i known. not_from_false _ (false_from_ne_true _ (λ both.
    let parts = and_parts _ _ both in
    both_ways _ (not-true _ (test_has _ s.indexes i
    (keeps_at Unique s old t row keeps listed (was t row listed present)) known))
    (and_from _ _ parts.0 (more_clash i.order i.columns (new t.tree) (old t.tree) row (λ r h. was t r listed h)
    parts.1))))))

-- ---- a table that no foreign key refers to

-- the parent of a reference is found by its name
pub parent_off : (s : Schema) (tree : ℕ) (ref : Reference) (key : ParentKey) → not (points_at s tree ref) ≡ true
    → parent_key s.tables ref ≡ Some key → (t : Table) × Has s.tables t × (t.tree ≢ tree) × (t.tree ≡ key.0)
parent_off s tree ref key off is =
    go (find (λ t. same_name t.name ref.parent) s.tables) refl
    (subst (λ o. not (unwrap_or (option_map (λ (p : Table). p.tree == tree) o) false) ≡ true)
    (found_by_place (λ t. same_name t.name ref.parent) s.tables) off) is
  where
    mapped : (t : Table) (o : Option (List ℕ)) → option_and_then (key_in t) o ≡ Some key → t.tree ≡ key.0
    mapped t None k = cc
    mapped t (Some ps) k = key_tree t ps key k

    go : (o : Option Table) → find (λ t. same_name t.name ref.parent) s.tables ≡ o
        → not (unwrap_or (option_map (λ (p : Table). p.tree == tree) o) false) ≡ true
        → option_and_then (λ t. option_and_then (key_in t) (key_places t ref.parent_columns)) o ≡ Some key
        → (t : Table) × Has s.tables t × (t.tree ≢ tree) × (t.tree ≡ key.0)
    go None found other k = cc
    go (Some t) found other k = (
      t,
      (has_found _ s.tables t found).0,
      λ e. both_ways _ (not-true _ other) (eq-eqb _ _ e),
      mapped t (key_places t ref.parent_columns) k,
    )

module _ (s : Schema) (tree : ℕ) (unreferred : is_unreferred s tree ≡ true) where
  misses : (t : Table) (ref : Reference) → Has s.tables t → Has t.references ref → not (points_at s tree ref) ≡ true
  misses t ref listed known = test_has _ t.references ref (test_has _ s.tables t unreferred listed) known

  -- where the other tables are as they were, each row that was there still has its parents
  pub refers_still : (old new : Trees) → ((t : Table) → Has s.tables t → t.tree ≢ tree → new t.tree ≡ old t.tree)
      → ((t : Table) (r : Row) → Has s.tables t → t.tree ≡ tree → Has (new t.tree) r
      → Has (old t.tree) r ⊎ (t.references ≡ [])) → Refers All s old → Refers All s new
  refers_still old new others own refers =
      refers_from All s new (λ t ref row listed known is present. elim (cases_eq t.tree tree) [
        | inl same ↦ elim (own t row listed same present) [
          | inl was ↦ still t ref row listed known was
          | inr none ↦ absurd (subst (λ l. Has l ref) none known)
        ]
        | inr other ↦ still t ref row listed known (subst (λ l. Has l row) (others t listed other) present)
      ])
    where
      held : (ref : Reference) (row : Row) (o : Option ParentKey) → not (points_at s tree ref) ≡ true
          → parent_key s.tables ref ≡ o → is_held new ref.columns row o ≡ is_held old ref.columns row o
      held ref row None off is = refl
      held ref row (Some key) off is = let t = parent_off s tree ref key off is in rw (← t.3, others t.0 t.1 t.2) refl

      still : (t : Table) (ref : Reference) (row : Row) → Has s.tables t → Has t.references ref → Has (old t.tree) row
          → has_parent s.tables new row ref ≡ true
      still t ref row listed known was =
          ap (λ b. has_null ref.columns row || b) (held ref row _ (misses t ref listed known) refl)
          ∙ refers_at All s old t row ref refers listed was known refl

found_alike : (s : Schema) (a b : List ℕ) → map to_ascii_lowercase a ≡ map to_ascii_lowercase b
    → table_named s a ≡ table_named s b
unfolding same_name
found_alike s a b e =
    ap (λ (l : List ℕ). position_from (λ (t : Table). is_eq (slice_cmp nat_cmp (map to_ascii_lowercase t.name) l)) 0
    s.tables) e

-- no reference names the table, so none has to fit it
pub none_to_fit : (s : Schema) (own : Table) (at : ℕ) → IsNamed s own.name at own → is_unreferred s own.tree ≡ true
    → list_all (λ t. list_all (is_key_if_to s own) t.references) s.tables ≡ true
none_to_fit s own at named unreferred =
    test_from _ s.tables (λ t listed. test_from _ t.references
    (λ ref known. or_left _ _ (not_from_false _ (false_from_ne_true _ (λ same.
    let found : table_named s ref.parent ≡ Some at =
    sym (found_alike s own.name ref.parent ((lowered own.name ref.parent).0 same)) ∙ named.0 in
    let here : points_at s own.tree ref ≡ true = rw (found, named.1, eq-eqb own.tree own.tree refl) refl in
    both_ways _ (not-true _ (misses s own.tree unreferred t ref listed known)) here)))))

-- ---- a table of the store is found by its tree

pub only_own : (db : Database) (table : Table) → IsDatabase db → (exists : IsIntact db.schema table) → (t : Table)
    → Has db.schema.tables t → t.tree ≡ tree_named db.schema table.name
    → t ≡ record table { tree = tree_named db.schema table.name }
only_own db table sound exists t listed same =
    let own : Table = record table { tree = tree_named db.schema table.name } in
    let named : bytes_eq t.name table.name ≡ true =
    rw (eq-eqb _ _ same) at (test_has _ db.schema.tables t exists.idle listed) in
    named_once db.schema.tables t own sound.lists.listed.named listed
    (has_got db.schema.tables exists.at own exists.known.named.1)
    ((lowered t.name table.name).1 (ap (map to_ascii_lowercase) ((bytes_eq-Decides _ _).0 named)))
