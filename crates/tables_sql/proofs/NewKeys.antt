-- A row of a new key, put into a table of the store, leaves no two rows of one key.
use Rattle.std.proofs.Common.{◌≡◌, inl, inr, ℕ, List, true, false, not, ◌&&◌, ◌||◌, ◌==◌, sym, ap, subst, ◌∙◌, bytes_eq}
use Rattle.std.proofs.Common.{eqb-true, IsTrue}
use Rattle.std.specs.List.{list_all}
use Rattle.std.specs.Ordering.{is_ne}
use Rattle.std.specs.Cmp.{tied_itself}
use Rattle.std.proofs.lemmas.Bool.{and_parts, and_from, not-true, not_from_false, both_ways, cases_eq}
use Rattle.std.proofs.lemmas.Bool.{false_from_ne_true}
use Rattle.std.proofs.lemmas.Slice.Eq.{bytes_eq-Decides}
use Rattle.sqlite_value.specs.declared.value.Value.{Value}
use Rattle.sqlite_value.specs.declared.value.Value.TheVariants.{Int}
use Rattle.sqlite_value.specs.Keys.{plain}
use Rattle.sqlite_value.specs.Order.{Row}
use Rattle.sqlite_value.proofs.OrderLemmas.{value_cmp_total}
use Rattle.sqlite_trees.specs.Tree.{Trees, rowid, put_row, with_tree}
use Rattle.sqlite_trees.specs.View.{is_int}
use Rattle.sqlite_sql.specs.Ops.{binary}
use Rattle.sqlite_schema.specs.declared.schema.Schema.{Schema}
use Rattle.sqlite_schema.specs.declared.schema.Index.{Index}
use Rattle.sqlite_schema.specs.declared.schema.Constraint.TheVariants.{Unique}
use Rattle.sqlite_schema.specs.Rules.{Keeps, agree, differ, clashes}
use Rattle.sqlite_rules.specs.Lists.{Has}
use Rattle.sqlite_rules.proofs.ListLemmas.{test_has, test_from, some_has, some_from}
use Rattle.sqlite_rules.proofs.KeyLemmas.{agree_back}
use Rattle.sqlite_rules.proofs.RuleLemmas.{keeps_at, keeps_from}
use Rattle.tables_schema.specs.Intact.{is_unguarded}
use Rattle.tables_sql.proofs.Truths.{reported}
use Rattle.sqlite_rules.proofs.TableLemmas.{put_has as from_put}
use Rattle.tables_sql.proofs.KeptRules.{set_here, set_other}

same_rowid : (v : Value) → IsTrue (is_int v) → differ v v ≡ false
unfolding binary
same_rowid (Int n) h = reported _ ∙ ap is_ne (tied_itself value_cmp_total (Int n))
same_rowid v h = cc

-- in no unique index of the tree does this row clash with one of these
abbrev IsFree : Schema → ℕ → List Row → Row → Type 0
IsFree s tree rows x =
    list_all (λ i. not ((i.is_unique && (i.table == tree)) && clashes i.order i.columns rows x)) s.indexes ≡ true

module _ (s : Schema) (db : Trees) (tree : ℕ) (key : List ℕ) (unguarded : is_unguarded s tree key ≡ true) (row : Row)
    (int : IsTrue (is_int (rowid row)))
    (fresh : (r : Row) → Has (db tree) r → agree plain key r key row ≡ true → ⊥) where
  rows : List Row
  rows = put_row row (db tree)

  -- a unique index of the tree is the key's
  of_key : (i : Index) → Has s.indexes i → (i.is_unique && (i.table == tree)) ≡ true
      → (i.order ≡ plain) × (i.columns ≡ key)
  of_key i known on =
      let guarded =
      test_has (λ (j : Index). not (j.is_unique && (j.table == tree))
      || (bytes_eq j.columns key && (j.order.digits == 0))) s.indexes i unguarded known in
      let parts = and_parts (bytes_eq i.columns key) (i.order.digits == 0) (rw on at guarded) in
      (ap (λ n. record { digits = n }) (eqb-true i.order.digits 0 parts.1), (bytes_eq-Decides i.columns key).0 parts.0)

  distinct_rowids : ((x : Row) → Has (db tree) x → IsFree s tree (db tree) x) → (i : Index) → Has s.indexes i
      → (i.is_unique && (i.table == tree)) ≡ true → (x : Row) → Has rows x → clashes i.order i.columns rows x ≡ true → ⊥
  unfolding rows
  distinct_rowids were i known on x present clash =
      let is = of_key i known on in
      let other = some_has (λ y. agree i.order i.columns y i.columns x && differ (rowid y) (rowid x)) rows clash in
      let parts = and_parts (agree i.order i.columns other.0 i.columns x) (differ (rowid other.0) (rowid x)) other.2 in
      let agrees : agree plain key other.0 key x ≡ true =
      subst (λ ps. agree plain ps other.0 ps x ≡ true) is.1
      (subst (λ o. agree o i.columns other.0 i.columns x ≡ true) is.0 parts.0) in
      elim (from_put row (db tree) x present) [
        | inl new ↦ elim (from_put row (db tree) other.0 other.1) [
          | inl too ↦ both_ways _ (same_rowid (rowid row) int)
              (subst (λ r. differ (rowid r) (rowid row) ≡ true) too
              (subst (λ r. differ (rowid other.0) (rowid r) ≡ true) new parts.1))
          | inr old ↦ fresh other.0 old (subst (λ r. agree plain key other.0 key r ≡ true) new agrees)
        ]
        | inr old ↦ elim (from_put row (db tree) other.0 other.1) [
          | inl new ↦ fresh x old (agree_back plain key key row x
              (subst (λ r. agree plain key r key x ≡ true) new agrees))
          | inr too ↦ both_ways _ (not-true _
              (test_has (λ (j : Index). not
              ((j.is_unique && (j.table == tree)) && clashes j.order j.columns (db tree) x)) s.indexes i
              (were x old) known)) (and_from _ _ on
              (some_from (λ y. agree i.order i.columns y i.columns x && differ (rowid y) (rowid x)) (db tree) other.0
              too other.2))
        ]
      ]

  -- a row of a new key leaves no two of one key
  pub unique_put : Keeps Unique s db → Keeps Unique s (with_tree db tree (put_row row (db tree)))
  unfolding rows
  unique_put keeps = keeps_from Unique s (with_tree db tree rows) (λ t x listed present. elim (cases_eq t.tree tree) [
    | inl same ↦
        let were : (y : Row) → Has (db tree) y → IsFree s tree (db tree) y =
        subst (λ n. (y : Row) → Has (db n) y → IsFree s n (db n) y) same
        (λ y here. keeps_at Unique s db t y keeps listed here) in
        let here = set_here db tree rows t.tree same in
        let free : IsFree s tree rows x =
        test_from _ s.indexes (λ i known. not_from_false _
        (false_from_ne_true _ (λ both. let parts = and_parts _ _ both in
        distinct_rowids were i known parts.0 x (subst (λ l. Has l x) here present) parts.1))) in
        subst (λ l. IsFree s t.tree l x) (sym here) (subst (λ n. IsFree s n rows x) (sym same) free)
    | inr other ↦
        let here = set_other db tree rows t.tree other in
        subst (λ l. IsFree s t.tree l x) (sym here)
        (keeps_at Unique s db t x keeps listed (subst (λ l. Has l x) here present))
  ])
