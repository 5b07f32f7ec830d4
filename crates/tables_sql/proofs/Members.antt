-- Which rows a table has after a write, and what map they make.
use Rattle.std.proofs.Common.{◌≡◌, inl, inr, ℕ, ℤ, List, [], ◌∷◌, map, filter, Bool, true, false, not, ◌||◌, cond, Some}
use Rattle.std.proofs.Common.{None, Option, refl, sym, ap, subst, ◌∙◌, IsTrue, Less, Equal, Greater, Ordering}
use Rattle.std.specs.Ordering.{is_eq, eq_by_cmp, match_ordering}
use Rattle.std.specs.Cmp.{IsTotalOrder, tied_itself}
use Rattle.std.specs.FinMap as finite
use Rattle.std.specs.FinMap.Entries.{find, where_key, find-where_key}
use Rattle.std.specs.List.{list_all}
use Rattle.sqlite_value.specs.Order.{Row, value_cmp}
use Rattle.sqlite_trees.specs.Tree.{Trees, rowid, put_row, has_rowid, without_rowid}
use Rattle.sqlite_rules.specs.Lists.{Has}
use Rattle.sqlite_rules.specs.Edit.{is_taken, without_all, id_in}
use Rattle.sqlite_rules.specs.Calls.{ids_of}
use Rattle.sqlite_sql.specs.Term.{Term, holds}
use Rattle.sqlite_sql.specs.Query.{IsAnswer}
use Rattle.sqlite_value.specs.declared.value.Value.TheVariants.{Int}
use Rattle.sqlite_rules.proofs.ListLemmas.{has_filtered, has_kept}
use Rattle.sqlite_rules.proofs.ProbeLemmas.{has_mapped, mapped_has}
use Rattle.sqlite_rules.proofs.TableLemmas.{has_put, put_has as from_put, put_all_keeps, int_is}
use Rattle.sqlite_trees.specs.View.{is_int}
use Rattle.sqlite_value.proofs.OrderLemmas.{value_cmp_total}
use Rattle.tables_sql.specs.Calls.{IsKeyed}
use Rattle.tables_sql.proofs.Distinct.{once, distinct_put, distinct_left}
use Rattle.tables_sql.proofs.Truths.{not_so}
use Rattle.tables_sql.proofs.Scans.{IsScan, scan_sound, scan_complete}
use Rattle.tables_sql.proofs.Writes.{rowids_where}

-- ---- a new row

pub put_has : (new : Row) (rows : List Row) → Has (put_row new rows) new
put_has = has_put

pub kept_put : (new : Row) (rows : List Row) (x : Row) → is_taken rows new ≡ false → Has rows x
    → Has (put_row new rows) x
kept_put new rows x free h = put_all_keeps (new ∷ []) rows x (rw free refl) h

pub keyed_put : (new : Row) (rows : List Row) → is_taken rows new ≡ false → IsTrue (is_int (rowid new)) → IsKeyed rows
    → IsKeyed (put_row new rows)
keyed_put new rows free int keyed =
    record { ints = ints; distinct_rowids = distinct_put new rows free keyed.distinct_rowids }
  where
    ints : (a : Row) → Has (put_row new rows) a → IsTrue (is_int (rowid a))
    ints a h =
        elim (from_put new rows a h) [
          | inl is ↦ subst (λ r. IsTrue (is_int (rowid r))) (sym is) int
          | inr present ↦ keyed.ints a present
        ]

-- ---- rows that go

-- no rowid of the list is this row's
abbrev pub Spares : List ℤ → Row → Type 0
Spares ids x = (id : ℤ) → Has ids id → has_rowid id x ≡ false

pub left_from : (ids : List ℤ) (rows : List Row) (x : Row) → Has (without_all rows ids) x → Has rows x × Spares ids x
left_from [] rows x h = (h, λ id none. absurd none)
left_from (i ∷ ids) rows x h =
    let later = left_from ids (without_rowid i rows) x h in
    let here = has_filtered (λ r. not (has_rowid i r)) rows x later.0 in (
      here.0,
      λ id is. elim is [
        | inl same ↦ ap (λ n. has_rowid n x) same ∙ not_so _ here.1
        | inr present ↦ later.1 id present
      ],
    )

pub left_has : (ids : List ℤ) (rows : List Row) (x : Row) → Has rows x → Spares ids x → Has (without_all rows ids) x
left_has [] rows x h spares = h
left_has (i ∷ ids) rows x h spares =
    left_has ids (without_rowid i rows) x (has_kept (λ r. not (has_rowid i r)) rows x h (ap not (spares i (inl refl))))
    (λ id present. spares id (inr present))

pub keyed_left : (ids : List ℤ) (rows : List Row) → IsKeyed rows → IsKeyed (without_all rows ids)
keyed_left ids rows keyed =
    record {
      ints = λ a h. keyed.ints a (left_from ids rows a h).0;
      distinct_rowids = distinct_left ids rows keyed.distinct_rowids;
    }

has_own : (x : Row) → IsTrue (is_int (rowid x)) → has_rowid (id_in (rowid x)) x ≡ true
has_own x int = rw (← int_is (rowid x) int) (ap is_eq (tied_itself value_cmp_total (rowid x)))

-- The rows that a query found by a test are gone, and the others stay.
module _ (tree : ℕ) (terms : List Term) (db : Trees) (params : Row) (rows : List Row)
    (answer : IsAnswer (rowids_where tree terms) db params rows) (keyed : IsKeyed (db tree)) where
  abbrev pub passes : Row → Bool
  passes row = list_all (holds (params ∷ row ∷ [])) terms

  scan : IsScan (rowids_where tree terms) tree
  scan = record { from = refl; group = refl; distinct = refl; whole = λ params rows. refl }

  pub removed_from : (x : Row) → Has (without_all (db tree) (ids_of rows)) x → Has (db tree) x × (passes x ≡ false)
  removed_from x h =
      let was = left_from (ids_of rows) (db tree) x h in
      (was.0, go (passes x) refl was.0 was.1)
    where
      go : (b : Bool) → passes x ≡ b → Has (db tree) x → Spares (ids_of rows) x → passes x ≡ false
      go false is present spares = is
      go true is present spares =
          let shown = scan_complete (rowids_where tree terms) tree scan db params rows answer x present is in
          let id = mapped_has (λ (r : Row). id_in (rowid r)) rows _ shown in
          absurd (let e = sym (has_own x (keyed.ints x present)) ∙ spares (id_in (rowid x)) id in cc)

  pub spared : (x : Row) → Has (db tree) x → passes x ≡ false → Has (without_all (db tree) (ids_of rows)) x
  spared x h fails = left_has (ids_of rows) (db tree) x h other
    where
      other : Spares (ids_of rows) x
      other id present =
          let s = has_mapped (λ (r : Row). id_in (rowid r)) rows id present in
          let r = scan_sound (rowids_where tree terms) tree scan db params rows answer s.0 s.1 in
          let is : id ≡ id_in (rowid r.0) = s.2 ∙ ap (λ (row : Row). id_in (rowid row)) r.3 in
          go r.0 r.1 r.2 is (has_rowid id x) refl
        where
          go : (r : Row) → Has (db tree) r → passes r ≡ true → id ≡ id_in (rowid r) → (b : Bool) → has_rowid id x ≡ b
              → has_rowid id x ≡ false
          go r here so is false e = e
          go r here so is true e =
              let own : rowid r ≡ Int id = int_is (rowid r) (keyed.ints r here) ∙ ap Int (sym is) in
              let same : x ≡ r = once (db tree) keyed.distinct_rowids x r h here (rw own e) in
              absurd (let f = sym so ∙ ap passes (sym same) ∙ fails in cc)

-- ---- a map without the keys that fail a test
module _ {K X : Type 0} {R : K → K → Ordering} (o : IsTotalOrder R) (same : finite.IsAntisymmetric R) where
  pub made_where : (p : K → Bool) (es : List (K × X))
      → finite.from_entries {R = R} (where_key R p es) ≡ finite.retain_keys (finite.from_entries es) p
  made_where p es = finite.same_map o same _ _ (λ q.
      let alike : (x : K) → R q x ≡ Equal → p x ≡ p q = λ x tie. ap p (sym (same q x tie)) in
      finite.get-from_entries o (where_key R p es) q ∙ find-where_key R p q alike es
      ∙ ap (λ v. cond (p q) v None) (sym (finite.get-from_entries o es q))
      ∙ sym (finite.get-retain_keys (finite.from_entries es) p q alike))

-- ---- one more entry, under a new key
module _ {K X : Type 0} {R : K → K → Ordering} (o : IsTotalOrder R) (same : finite.IsAntisymmetric R)
    (kind : Row → Bool) (entry : Row → K × X) (new : Row) where
  swapped : (q a b : K) (v w : X) (rest : Option X) → (R b a ≡ Equal → ⊥)
      → cond (eq_by_cmp R q a) (Some v) (cond (eq_by_cmp R q b) (Some w) rest)
      ≡ cond (eq_by_cmp R q b) (Some w) (cond (eq_by_cmp R q a) (Some v) rest)
  swapped q a b v w rest distinct_rowids = go (R q a) refl (R q b) refl
    where
      go : (r : Ordering) → R q a ≡ r → (s : Ordering) → R q b ≡ s
          → cond (is_eq r) (Some v) (cond (is_eq s) (Some w) rest)
          ≡ cond (is_eq s) (Some w) (cond (is_eq r) (Some v) rest)
      go Less e s f = refl
      go Greater e s f = refl
      go Equal e Less f = refl
      go Equal e Greater f = refl
      go Equal e Equal f = absurd (distinct_rowids (sym (o.congr q b a f) ∙ e))

  none_first : (q k : K) (v : X) (rest : Option X) → cond (eq_by_cmp R q k) (Some v) rest ≡ None
      → (R q k ≡ Equal → ⊥) × (rest ≡ None)
  none_first q k v rest h = go (R q k) refl h
    where
      go : (r : Ordering) → R q k ≡ r → cond (is_eq r) (Some v) rest ≡ None → (R q k ≡ Equal → ⊥) × (rest ≡ None)
      go Less e h = (λ f. let x = sym e ∙ f in absurd cc, h)
      go Equal e h = absurd (let x = h in cc)
      go Greater e h = (λ f. let x = sym e ∙ f in absurd cc, h)

  found_with : (rows : List Row) → is_taken rows new ≡ false → kind new ≡ true
      → find R (entry new).0 (map entry (filter kind rows)) ≡ None → (q : K)
      → find R q (map entry (filter kind (put_row new rows)))
      ≡ cond (eq_by_cmp R q (entry new).0) (Some (entry new).1) (find R q (map entry (filter kind rows)))
  found_with [] free is none q = rw is refl
  found_with (r ∷ rs) free is none q =
      go (value_cmp (rowid r) (rowid new)) free (kind r) refl none (λ f n. found_with rs f is n q)
    where
      go : (c : Ordering) → (is_eq c || is_taken rs new) ≡ false → (b : Bool) → kind r ≡ b
          → find R (entry new).0 (map entry (cond b (r ∷ filter kind rs) (filter kind rs))) ≡ None
          → (is_taken rs new ≡ false → find R (entry new).0 (map entry (filter kind rs)) ≡ None
          → find R q (map entry (filter kind (put_row new rs)))
          ≡ cond (eq_by_cmp R q (entry new).0) (Some (entry new).1) (find R q (map entry (filter kind rs))))
          → find R q (map entry (filter kind (match_ordering c (r ∷ put_row new rs) (new ∷ rs) (new ∷ r ∷ rs))))
          ≡ cond (eq_by_cmp R q (entry new).0) (Some (entry new).1)
          (find R q (map entry (cond b (r ∷ filter kind rs) (filter kind rs))))
      go Less free false e none later = rw e (later free none)
      go Less free true e none later =
          let first = none_first (entry new).0 (entry r).0 (entry r).1 _ none in
          rw e (ap (cond (eq_by_cmp R q (entry r).0) (Some (entry r).1)) (later free first.1)
          ∙ swapped q (entry r).0 (entry new).0 (entry r).1 (entry new).1 _ first.0)
      go Equal free b e none later = absurd (let x = free in cc)
      go Greater free b e none later = rw (is, e) refl

  -- the map that the rows of one kind make has one entry more
  pub made_new : (rows : List Row) → is_taken rows new ≡ false → kind new ≡ true
      → finite.get (finite.from_entries {R = R} (map entry (filter kind rows))) (entry new).0 ≡ None
      → finite.from_entries {R = R} (map entry (filter kind (put_row new rows)))
      ≡ finite.insert (finite.from_entries (map entry (filter kind rows))) (entry new).0 (entry new).1
  made_new rows free is none = finite.same_map o same _ _ (λ q.
      finite.get-from_entries o (map entry (filter kind (put_row new rows))) q
      ∙ found_with rows free is (sym (finite.get-from_entries o (map entry (filter kind rows)) (entry new).0)
      ∙ none) q
      ∙ ap (cond (eq_by_cmp R q (entry new).0) (Some (entry new).1))
      (sym (finite.get-from_entries o (map entry (filter kind rows)) q))
      ∙ sym (finite.get-insert o (finite.from_entries (map entry (filter kind rows))) (entry new).0 (entry new).1
      q))
