-- What map the rows of one table make, when they are read, when one is put and when some are taken.
use Rattle.std.proofs.Common.{◌≡◌, ℕ, ℤ, List, [], ◌∷◌, map, filter, Bool, true, false, not, cond, None, refl, sym, ap}
use Rattle.std.proofs.Common.{subst, ◌∙◌}
use Rattle.std.specs.declared.cmp.Ordering.{Ordering}
use Rattle.std.specs.Cmp.{IsTotalOrder}
use Rattle.std.specs.FinMap as finite
use Rattle.std.specs.FinMap.Entries.{where_key}
use Rattle.std.specs.List.{list_all, AllZip}
use Rattle.std.specs.List.Sorted.{IsStrictlySortedBy}
use Rattle.sqlite_value.specs.Order.{Row}
use Rattle.sqlite_trees.specs.Tree.{Trees, put_row, has_rowid, without_rowid}
use Rattle.sqlite_trees.proofs.ListLemmas.{all_of, filter_all, filter_same}
use Rattle.sqlite_rules.specs.Lists.{Has}
use Rattle.sqlite_rules.specs.Edit.{is_taken, without_all}
use Rattle.sqlite_rules.specs.Calls.{ids_of}
use Rattle.sqlite_rules.proofs.ListLemmas.{all_from, test_from, test_has, has_filtered, has_kept}
use Rattle.sqlite_rules.proofs.ProbeLemmas.{has_mapped, mapped_has}
use Rattle.sqlite_catalog.proofs.LayoutLemmas.{zipped_left, zipped_right}
use Rattle.sqlite_catalog.proofs.ListFacts.{filter_within}
use Rattle.sqlite_sql.specs.Term.{Term, holds}
use Rattle.sqlite_sql.specs.Query.{Query, IsAnswer}
use Rattle.tables_sql.specs.Calls.{IsKeyed}
use Rattle.tables_sql.specs.Contents.{map_of}
use Rattle.tables_sql.proofs.Orders.{listed_as}
use Rattle.tables_sql.proofs.Scans.{IsScan, scan_sound, scan_complete, shows}
use Rattle.tables_sql.proofs.Writes.{rowids_where}
use Rattle.tables_sql.proofs.Members.{made_where, made_new, removed_from, spared, left_from, left_has}
use Rattle.tables_sql.proofs.Truths.{and_so, not_so}

pub map-map : {A B C : Type 0} (f : B → C) (g : A → B) (xs : List A) → map f (map g xs) ≡ map (λ x. f (g x)) xs
map-map f g [] = refl
map-map f g (x ∷ xs) = ap (λ l. f (g x) ∷ l) (map-map f g xs)

-- ---- what a query of some of the rows shows

module _ {K X T : Type 0} {R : K → K → Ordering} (o : IsTotalOrder R) (same : finite.IsAntisymmetric R)
    (kind : Row → Bool) (entry : Row → K × X)
    (tree : ℕ) (q : Query) (scan : IsScan q tree) (db : Trees) (params : Row) (rows : List Row)
    (answer : IsAnswer q db params rows)
    (test : K → Bool) (said : (r : Row) → kind r ≡ true
    → list_all (holds (params ∷ r ∷ [])) q.filter ≡ test (entry r).0)
    (Shown : Row → T → Type 0) (item : T → K × X)
    (fits : (r : Row) (t : T) → Shown (shows q params r) t → (kind r ≡ true) × (entry r ≡ item t))
    (all : List T) (texts : AllZip Shown rows all) where
  abbrev wanted : List (K × X)
  wanted = where_key R test (map entry (filter kind (db tree)))

  to : (e : K × X) → Has wanted e → Has (map item all) e
  to e h =
      let k = has_filtered (λ (x : K × X). test x.0) _ e h in
      let r = has_mapped entry _ e k.0 in
      let kept = has_filtered kind _ r.0 r.1 in
      let passes = said r.0 kept.1 ∙ subst (λ (x : K × X). test x.0 ≡ true) r.2 k.1 in
      let present = scan_complete q tree scan db params rows answer r.0 kept.0 passes in
      let p = zipped_right Shown rows all _ texts present in
      let f = fits r.0 p.0 p.2 in
      subst (Has (map item all)) (sym (r.2 ∙ f.1)) (mapped_has item all p.0 p.1)

  back : (e : K × X) → Has (map item all) e → Has wanted e
  back e h =
      let p = has_mapped item all e h in
      let x = zipped_left Shown rows all p.0 texts p.1 in
      let r = scan_sound q tree scan db params rows answer x.0 x.1 in
      let f = fits r.0 p.0 (subst (λ w. Shown w p.0) r.3 x.2) in
      let passes : test (entry r.0).0 ≡ true = sym (said r.0 f.0) ∙ r.2 in
      subst (Has wanted) (sym (p.2 ∙ sym f.1))
      (has_kept (λ (x : K × X). test x.0) _ (entry r.0) (mapped_has entry _ r.0 (has_kept kind _ r.0 r.1 f.0))
      passes)

  -- the entries of some of the keys, in order
  pub part_listed : IsStrictlySortedBy R (map (λ t. (item t).0) all)
      → map item all ≡ finite.entries (finite.retain_keys (map_of R kind entry (db tree)) test)
  unfolding map_of
  part_listed up =
      let keys : map (λ (e : K × X). e.0) (map item all) ≡ map (λ t. (item t).0) all =
      map-map (λ (e : K × X). e.0) item all in
      sym (listed_as o same wanted (map item all) to back (subst (IsStrictlySortedBy R) (sym keys) up))
      ∙ ap finite.entries (made_where o same test (map entry (filter kind (db tree))))

-- a map keeps all its keys where the test always passes
pub all_kept : {K X : Type 0} {R : K → K → Ordering} (o : IsTotalOrder R) (same : finite.IsAntisymmetric R)
    (m : finite.FinMap R X) → finite.retain_keys m (λ _. true) ≡ m
all_kept o same m = finite.same_map o same _ _ (λ q. finite.get-retain_keys m (λ _. true) q (λ _ _. refl))

-- where each is left out
pub none_kept : {K X : Type 0} {R : K → K → Ordering} (o : IsTotalOrder R) (same : finite.IsAntisymmetric R)
    (m : finite.FinMap R X) → finite.retain_keys m (λ _. false) ≡ finite.from_entries []
none_kept o same m =
    finite.same_map o same _ _ (λ q. finite.get-retain_keys m (λ _. false) q (λ _ _. refl)
    ∙ sym (finite.get-from_entries o [] q))

-- ---- rows that a DELETE takes

-- no rowid of the list is this row's, as a test
abbrev is_spared : List ℤ → Row → Bool
is_spared ids x = list_all (λ id. not (has_rowid id x)) ids

left_is : (ids : List ℤ) (rows : List Row) → without_all rows ids ≡ filter (is_spared ids) rows
left_is [] rows = sym (filter_all (λ _. true) rows (all_of (λ _. true ≡ true) (λ _. refl) rows))
left_is (i ∷ ids) rows =
    let others = λ (r : Row). not (has_rowid i r) in
    left_is ids (without_rowid i rows)
    ∙ filter_same (is_spared ids) (is_spared (i ∷ ids)) (filter others rows)
    (all_from (λ r. is_spared ids r ≡ is_spared (i ∷ ids) r) (filter others rows)
    (λ r present. rw (has_filtered others rows r present).1 refl))
    ∙ filter_within (is_spared (i ∷ ids)) others rows (λ r present spared. (and_so _ _ spared).0)

module _ (tree : ℕ) (terms : List Term) (db : Trees) (params : Row) (rows : List Row)
    (answer : IsAnswer (rowids_where tree terms) db params rows) (keyed : IsKeyed (db tree)) where
  abbrev passing : Row → Bool
  passing row = list_all (holds (params ∷ row ∷ [])) terms

  -- what stays is what does not pass the test
  pub left_by_test : without_all (db tree) (ids_of rows) ≡ filter (λ r. not (passing r)) (db tree)
  left_by_test =
      left_is (ids_of rows) (db tree)
      ∙ filter_same (is_spared (ids_of rows)) (λ r. not (passing r)) (db tree)
      (all_from (λ x. is_spared (ids_of rows) x ≡ not (passing x)) (db tree) alike)
    where
      alike : (x : Row) → Has (db tree) x → is_spared (ids_of rows) x ≡ not (passing x)
      alike x h = go (is_spared (ids_of rows) x) refl (passing x) refl
        where
          go : (b : Bool) → is_spared (ids_of rows) x ≡ b → (c : Bool) → passing x ≡ c → b ≡ not c
          go true e true f = let was =
              removed_from tree terms db params rows answer keyed x
              (left_has (ids_of rows) (db tree) x h
              (λ id present. not_so _ (test_has (λ i. not (has_rowid i x)) (ids_of rows) id e present))) in
              absurd (let g = sym f ∙ was.1 in cc)
          go true e false f = refl
          go false e true f = refl
          go false e false f =
              let present = left_from (ids_of rows) (db tree) x (spared tree terms db params rows answer keyed x h f) in
              absurd (let g = sym e ∙ test_from (λ i. not (has_rowid i x)) (ids_of rows)
              (λ id known. ap not (present.1 id known)) in cc)

-- a filter of the rows of one kind by what their keys say
filtered : {K X : Type 0} (kind p : Row → Bool) (entry : Row → K × X) (keep : K → Bool) (rows : List Row)
    → ((r : Row) → kind r ≡ true → p r ≡ keep (entry r).0)
    → map entry (filter kind (filter p rows)) ≡ filter (λ (e : K × X). keep e.0) (map entry (filter kind rows))
filtered kind p entry keep [] said = refl
filtered {K} {X} kind p entry keep (r ∷ rows) said = go (kind r) refl (p r) refl (filtered kind p entry keep rows said)
  where
    go : (k : Bool) → kind r ≡ k → (b : Bool) → p r ≡ b
        → map entry (filter kind (filter p rows)) ≡ filter (λ (e : K × X). keep e.0) (map entry (filter kind rows))
        → map entry (filter kind (cond b (r ∷ filter p rows) (filter p rows)))
        ≡ filter (λ (e : K × X). keep e.0) (map entry (cond k (r ∷ filter kind rows) (filter kind rows)))
    go true e true f later = rw (e, ← said r e, f) (ap (λ l. entry r ∷ l) later)
    go true e false f later = rw (← said r e, f) later
    go false e true f later = rw e later
    go false e false f later = later

-- the map that is left
module _ {K X : Type 0} {R : K → K → Ordering} (o : IsTotalOrder R) (same : finite.IsAntisymmetric R)
    (kind : Row → Bool) (entry : Row → K × X)
    (tree : ℕ) (terms : List Term) (db : Trees) (params : Row) (rows : List Row)
    (answer : IsAnswer (rowids_where tree terms) db params rows) (keyed : IsKeyed (db tree))
    (test : K → Bool) (said : (r : Row) → kind r ≡ true
    → list_all (holds (params ∷ r ∷ [])) terms ≡ test (entry r).0) where
  pub left_map : map_of R kind entry (without_all (db tree) (ids_of rows))
      ≡ finite.retain_keys (map_of R kind entry (db tree)) (λ k. not (test k))
  unfolding map_of
  left_map =
      ap (λ rs. finite.from_entries {R = R} (map entry (filter kind rs)))
      (left_by_test tree terms db params rows answer keyed)
      ∙ ap (finite.from_entries {R = R})
      (filtered kind (λ r. not (list_all (holds (params ∷ r ∷ [])) terms)) entry (λ k. not (test k)) (db tree)
      (λ r is. ap not (said r is)))
      ∙ made_where o same (λ k. not (test k)) (map entry (filter kind (db tree)))

-- ---- a row that an INSERT puts

-- one entry more, under a new key
pub put_map : {K X : Type 0} {R : K → K → Ordering} (o : IsTotalOrder R) (same : finite.IsAntisymmetric R)
    (kind : Row → Bool) (entry : Row → K × X) (new : Row) (rows : List Row)
    → is_taken rows new ≡ false → kind new ≡ true → finite.get (map_of R kind entry rows) (entry new).0 ≡ None
    → map_of R kind entry (put_row new rows) ≡ finite.insert (map_of R kind entry rows) (entry new).0 (entry new).1
unfolding map_of
put_map o same kind entry new rows free is none = made_new o same kind entry new rows free is none
