-- What a query shows in the order of a key can be read, and rises.
use Rattle.std.proofs.Common.{◌≡◌, ◌⊎◌, inl, inr, ℕ, zero, suc, ◌+◌, ◌<◌, List, [], ◌∷◌, ◌++◌, length, map, flat_map}
use Rattle.std.proofs.Common.{get_or, Bool, true, false, cond, Result, Ok, Err, IsTrue, refl, sym, ap, ap₂, subst}
use Rattle.std.proofs.Common.{subst₂, ◌∙◌, length-append, arith}
use Rattle.std.specs.Prelude.{IsSome, IsSorted, IfErr}
use Rattle.std.specs.declared.cmp.Ordering.{Ordering}
use Rattle.std.specs.declared.cmp.Ordering.TheVariants.{Less, Equal, Greater}
use Rattle.std.specs.Ordering.{is_lt, is_eq, eq_by_cmp, ordering_reverse}
use Rattle.std.specs.Cmp.{IsTotalOrder, Equal-is, tied_itself, eq_by_cmp_equiv}
use Rattle.std.specs.FinMap as finite
use Rattle.std.specs.List.{list_all, AllByRecursion, AllZip, AllAdjacentBelow, IsDistinct}
use Rattle.std.proofs.lemmas.Slice.Zip.{AllZip-long}
use Rattle.std.proofs.lemmas.Map.Keys.{apart_from_distinct, IsDistinct-IsPermutation}
use Rattle.sqlite_value.specs.Order.{Row, column}
use Rattle.sqlite_value.proofs.OrderLemmas.{value_cmp_total}
use Rattle.sqlite_trees.specs.Tree.{Trees, rowid}
use Rattle.sqlite_sql.specs.Term.{Env, holds}
use Rattle.sqlite_sql.specs.Query.{Query, IsAnswer, Output, output, output_cmp}
use Rattle.sqlite_sql.specs.Program.{overlay}
use Rattle.sqlite_sql.proofs.QueryLemmas.{output_cmp_total}
use Rattle.sqlite_schema.specs.declared.schema.Column.{Column}
use Rattle.sqlite_schema.specs.declared.command.Command.TheVariants.{Select}
use Rattle.sqlite_rules.specs.Lists.{Has}
use Rattle.sqlite_rules.proofs.ListLemmas.{all_has, all_from, has_left}
use Rattle.std.proofs.Math.ListN.{get_or-append}
use Rattle.sqlite_rules.proofs.ProbeLemmas.{has_mapped, mapped_has}
use Rattle.sqlite.specs.declared.error.Error.{Error}
use Rattle.sqlite.specs.State.{State, FailsToQuery}
use Rattle.tables_sql.specs.declared.failure.Failed.{Failed}
use Rattle.tables_sql.specs.declared.failure.Failed.TheVariants.{Memory, Disk}
use Rattle.tables_schema.specs.Forms.{strict}
use Rattle.tables_schema.specs.Intact.{IsIntact, HasTables, tree_named}
use Rattle.tables_sql.specs.Contents.{rows_named}
use Rattle.tables_sql.specs.Texts.{IsReadable}
use Rattle.tables_sql.specs.Queries.{HasBegunWith}
use Rattle.tables_sql.specs.Calls.{IsStoreDatabase, IsReady}
use Rattle.tables_sql.specs.Failures.{failure_of, IsQueryFailure, FailsWith, FailsFor}
use Rattle.tables_sql.specs.Reading.{IsAmiss}
use Rattle.tables_sql.proofs.Distinct.{tie, AreDistinct}
use Rattle.tables_sql.proofs.Scans.{IsScan, shows, kept, listed, scan_sound, has_matched, has_permuted}
use Rattle.tables_sql.proofs.Statements.{answer_of, Compiles}
use Rattle.tables_sql.proofs.RowByRow.{whole}
use Rattle.tables_sql.proofs.Writes.{overlay_low}

-- ---- a list in order, in which no two are tied

above : (r s : Ordering) → r ≡ ordering_reverse s → is_eq r ≡ false → is_lt s ≡ false → r ≡ Less
above Less s e h k = refl
above Equal s e h k = absurd (let no = h in cc)
above Greater Less e h k = absurd (let no = k in cc)
above Greater Equal e h k = absurd (let no = e in cc)
above Greater Greater e h k = absurd (let no = e in cc)

pub rising : {X : Type 0} {c : X → X → Ordering} (o : IsTotalOrder c) (xs : List X) → IsSorted c xs
    → IsDistinct (eq_by_cmp c) xs → AllAdjacentBelow (λ x y. c x y ≡ Less) xs (length xs)
rising {c = c} o xs up distinct_rowids k d low =
    above _ _ (o.antisymm (get_or xs k d) (get_or xs (k + 1) d))
    (apart_from_distinct (eq_by_cmp c) xs k (k + 1) d distinct_rowids (omega arith) low) (up k d (omega arith) low)

-- ---- two lists, one next to the other

-- what the prefix of a list is made of, is the prefix of what the list is made of
pub parted : {X Y : Type 0} (f : X → Y) (xs : List X) (ys zs : List Y) → ys ++ zs ≡ map f xs
    → (front : List X) × (back : List X) × (xs ≡ front ++ back) × (ys ≡ map f front)
parted f xs [] zs h = ([], xs, refl, refl)
parted f [] (y ∷ ys) zs h = absurd (let no = h in cc)
parted f (x ∷ xs) (y ∷ ys) zs h =
    let later : ys ++ zs ≡ map f xs = cc in
    let here : y ≡ f x = cc in
    let rest = parted f xs ys zs later in
    (x ∷ rest.0, rest.1, ap (λ l. x ∷ l) rest.2, ap₂ (λ v vs. v ∷ vs) here rest.3)

zip_at : {X Y : Type 0} (P : X → Y → Type 0) (xs : List X) (ys : List Y) → AllZip P xs ys → (k : ℕ) (d : X) (e : Y)
    → k < length ys → P (get_or xs k d) (get_or ys k e)
zip_at P xs [] z k d e low = absurd (omega (arith, low))
zip_at P [] (y ∷ ys) z k d e low = absurd z
zip_at P (x ∷ xs) (y ∷ ys) z zero d e low = z.0
zip_at P (x ∷ xs) (y ∷ ys) z (suc k) d e low = zip_at P xs ys z.1 k d e (omega (arith, low))

-- ---- the rows of a table

-- each row is of the kind, no two have one key or one rowid, and each text in N columns is UTF-8
pub record AreKept {K : Type 0} (kind : Row → Bool) (key : Row → K) (width : ℕ) (rows : List Row) : Type 0 where
  pub typed : (r : Row) → Has rows r → kind r ≡ true
  pub once : (a b : Row) → Has rows a → Has rows b → kind a ≡ true → kind b ≡ true → key a ≡ key b → a ≡ b
  pub distinct_rowids : AreDistinct rows
  pub readable : (row : Row) (at : ℕ) → Has rows row → at < width → IsReadable (column row (at + 1))

-- what is made of those that pass a test differs, where what is made of two rows does
module _ {X E : Type 0} (c : X → X → Ordering) (test : Row → Bool) (env : Row → E) (out : E → X) where
  abbrev passed : List Row → List X
  passed rows = map out (flat_map (λ r. cond (test r) (env r ∷ []) []) rows)

  others : (r : Row) (rows : List Row) → ((s : Row) → Has rows s → eq_by_cmp c (out (env r)) (out (env s)) ≡ false)
      → AllByRecursion (λ x. eq_by_cmp c (out (env r)) x ≡ false) (passed rows)
  others r [] h = tt
  others r (s ∷ rows) h = go (test s) (h s (inl refl)) (others r rows (λ x present. h x (inr present)))
    where
      go : (b : Bool) → eq_by_cmp c (out (env r)) (out (env s)) ≡ false
          → AllByRecursion (λ x. eq_by_cmp c (out (env r)) x ≡ false) (passed rows)
          → AllByRecursion (λ x. eq_by_cmp c (out (env r)) x ≡ false)
          (map out (cond b (env s ∷ []) [] ++ flat_map (λ r. cond (test r) (env r ∷ []) []) rows))
      go true e later = (e, later)
      go false e later = later

  not_tied : (r : Row) (rows : List Row) → AllByRecursion (λ v. tie (rowid r) v ≡ false) (map rowid rows)
      → ((s : Row) → Has rows s → c (out (env r)) (out (env s)) ≡ Equal → r ≡ s) → (s : Row) → Has rows s
      → eq_by_cmp c (out (env r)) (out (env s)) ≡ false
  not_tied r rows distinct_rowids once s present = go (eq_by_cmp c (out (env r)) (out (env s))) refl
    where
      go : (b : Bool) → eq_by_cmp c (out (env r)) (out (env s)) ≡ b → eq_by_cmp c (out (env r)) (out (env s)) ≡ false
      go false e = e
      go true e =
          let same : r ≡ s = once s present ((Equal-is _).0 e) in
          let other : tie (rowid r) (rowid s) ≡ false =
          all_has (λ v. tie (rowid r) v ≡ false) (map rowid rows) (rowid s) distinct_rowids
          (mapped_has rowid rows s present) in
          absurd (let no = sym (ap is_eq (tied_itself value_cmp_total (rowid r)))
          ∙ ap (λ x. tie (rowid r) (rowid x)) same ∙ other in cc)

  pub passed_differ : (rows : List Row) → AreDistinct rows
      → ((a b : Row) → Has rows a → Has rows b → c (out (env a)) (out (env b)) ≡ Equal → a ≡ b)
      → IsDistinct (eq_by_cmp c) (passed rows)
  unfolding IsDistinct
  passed_differ [] distinct_rowids once = tt
  passed_differ (r ∷ rows) distinct_rowids once =
      go (test r) (others r rows (not_tied r rows distinct_rowids.0 (λ s present. once r s (inl refl) (inr present))))
      (passed_differ rows distinct_rowids.1 (λ a b here present. once a b (inr here) (inr present)))
    where
      go : (b : Bool) → AllByRecursion (λ x. eq_by_cmp c (out (env r)) x ≡ false) (passed rows)
          → IsDistinct (eq_by_cmp c) (passed rows)
          → IsDistinct (eq_by_cmp c) (map out
          (cond b (env r ∷ []) [] ++ flat_map (λ r. cond (test r) (env r ∷ []) []) rows))
      go true here later = (here, later)
      go false here later = later

-- ---- what a query shows

module _ (q : Query) (tree : ℕ) (scan : IsScan q tree) (db : Trees) (params : Row) (rows tail : List Row)
    (answer : IsAnswer q db params (rows ++ tail)) where
  abbrev made : Row → Output
  made r = output q (params ∷ r ∷ [])

  abbrev test : Row → Bool
  test r = list_all (holds (params ∷ r ∷ [])) q.filter

  abbrev env : Row → Env
  env r = params ∷ r ∷ []

  -- what it puts in order is made of rows of the table
  ordered_from : (x : Output) → Has answer.ordered x → (r : Row) × Has (db tree) r × (x ≡ made r)
  ordered_from x h =
      let e =
      has_mapped (output q) _ x (subst (λ l. Has l x) (kept q tree scan db params (rows ++ tail) answer)
      (has_permuted answer.kept answer.ordered x answer.same h)) in
      let r = has_matched test env (db tree) e.0 e.1 in
      (r.0, r.1, e.2 ∙ ap (output q) r.3)

  -- and rises
  ordered_rises : AreDistinct (db tree)
      → ((a b : Row) → Has (db tree) a → Has (db tree) b → output_cmp q (made a) (made b) ≡ Equal → a ≡ b)
      → AllAdjacentBelow (λ x y. output_cmp q x y ≡ Less) answer.ordered (length answer.ordered)
  ordered_rises distinct_rowids once =
      let each : IsDistinct (eq_by_cmp (output_cmp q)) answer.kept =
      subst (IsDistinct (eq_by_cmp (output_cmp q))) (sym (kept q tree scan db params (rows ++ tail) answer))
      (passed_differ (output_cmp q) test env (output q) (db tree) distinct_rowids once) in
      rising (output_cmp_total q) answer.ordered answer.sorted
      (IsDistinct-IsPermutation (eq_by_cmp (output_cmp q)) (λ x y. (eq_by_cmp_equiv (output_cmp_total q)).symm x y)
      answer.kept answer.ordered answer.same each)

  module _ {K : Type 0} {R : K → K → Ordering} (same : finite.IsAntisymmetric R) (kind : Row → Bool) (key : Row → K)
      (width : ℕ) (own : AreKept kind key width (db tree))
      (orders : (a b : Row) → kind a ≡ true → kind b ≡ true → output_cmp q (made a) (made b) ≡ R (key a) (key b))
      {T : Type 0} (ShowsItem : Row → T → Type 0) (item : T → K)
      (fits : (r : Row) (t : T) → ShowsItem (shows q params r) t → key r ≡ item t) where
    -- an entry and the row that it was made of
    abbrev Fits : Output → T → Type 0
    Fits x t = (r : Row) × (kind r ≡ true) × (x ≡ made r) × (key r ≡ item t)

    all_fit : (xs : List Output) (all : List T) → ((x : Output) → Has xs x → Has answer.ordered x)
        → AllZip ShowsItem (map (λ (x : Output). x.1) xs) all → AllZip Fits xs all
    all_fit [] [] within z = tt
    all_fit [] (t ∷ all) within z = absurd z
    all_fit (x ∷ xs) [] within z = absurd z
    all_fit (x ∷ xs) (t ∷ all) within z =
        let r = ordered_from x (within x (inl refl)) in (
          (r.0, own.typed r.0 r.1, r.2, fits r.0 t (subst (λ (w : Output). ShowsItem w.1 t) r.2 z.0)),
          all_fit xs all (λ y present. within y (inr present)) z.1,
        )

    pub entries_rise : (all : List T) → AllZip ShowsItem rows all
        → AllAdjacentBelow (λ x y. true ≡ is_lt (R (item x) (item y))) all (length all)
    entries_rise all z k d low =
        let part =
        parted (λ (x : Output). x.1) answer.ordered rows tail
        (listed q tree scan db params (rows ++ tail) answer) in
        let front = part.0 in
        let fit : AllZip Fits front all =
        all_fit front all (λ x h. subst (λ l. Has l x) (sym part.2) (has_left front part.1 x h))
        (subst (λ l. AllZip ShowsItem l all) part.3 z) in
        let long : length all ≡ length front = AllZip-long Fits front all fit in
        let nothing : Output = ([], []) in
        let x = zip_at Fits front all fit k nothing d (omega (arith, low)) in
        let y = zip_at Fits front all fit (k + 1) nothing d low in
        let within : k + 1 < length (front ++ part.1) = omega (arith, length-append front part.1, long, low) in
        let rises : output_cmp q (get_or (front ++ part.1) k nothing) (get_or (front ++ part.1) (k + 1) nothing)
        ≡ Less = subst (λ l. k + 1 < length l → output_cmp q (get_or l k nothing) (get_or l (k + 1) nothing) ≡ Less)
        part.2 (ordered_rises own.distinct_rowids once k nothing) within in
        let up : output_cmp q (get_or front k nothing) (get_or front (k + 1) nothing) ≡ Less =
        subst₂ (λ u v. output_cmp q u v ≡ Less) (get_or-append front part.1 nothing k (omega (arith, long, low)))
        (get_or-append front part.1 nothing (k + 1) (omega (arith, long, low))) rises in
        let below : R (key x.0) (key y.0) ≡ Less =
        sym (orders x.0 y.0 x.1 y.1) ∙ subst₂ (λ u v. output_cmp q u v ≡ Less) x.2 y.2 up in
        subst₂ (λ u v. true ≡ is_lt (R u v)) x.3 y.3 (sym (ap is_lt below))
      where
        once : (a b : Row) → Has (db tree) a → Has (db tree) b → output_cmp q (made a) (made b) ≡ Equal → a ≡ b
        once a b here present e =
            let p = own.typed a here in
            let r = own.typed b present in
            own.once a b here present p r (same (key a) (key b) (sym (orders a b p r) ∙ e))

    -- so each row can be read, and the entries rise
    pub none_amiss : (IsLegible : Row → Type 0)
        → ((r : Row) → kind r ≡ true → ((at : ℕ) → at < width → IsReadable (column r (at + 1)))
        → IsLegible (shows q params r)) → ¬ IsAmiss IsLegible ShowsItem (λ x y. is_lt (R (item x) (item y))) rows
    none_amiss IsLegible legible (inl h) = h (all_from IsLegible rows (λ x present.
        let r = scan_sound q tree scan db params (rows ++ tail) answer x (has_left rows tail x present) in
        subst IsLegible (sym r.3) (legible r.0 (own.typed r.0 r.1) (λ at low. own.readable r.0 at r.1 low))))
    none_amiss IsLegible legible (inr h) = h.2 (entries_rise h.0 h.1)

-- ---- what a text shows of a table of the store

module _ (name : List ℕ) (columns : List Column) (primary : List ℕ) {K : Type 0} {R : K → K → Ordering}
    (same : finite.IsAntisymmetric R) (kind : Row → Bool) (key : Row → K) (width : ℕ) (old new : State)
    (ready : IsTrue old.is_open → IsReady old)
    (at : HasTables old.now.schema → IsIntact old.now.schema (strict name columns primary))
    (own : IsStoreDatabase old.now → AreKept kind key width (rows_named old.now name)) (text : List ℕ)
    (params : Row) (names : List (List ℕ)) (query : ℕ → Query)
    (scan : (tree : ℕ) → IsScan (query tree) tree) {count : ℕ}
    (is : Compiles name columns primary text count
    (λ at tree. Select (record { lets = []; body = query tree }) names))
    (orders : (tree : ℕ) (a b : Row) → kind a ≡ true → kind b ≡ true
    → output_cmp (query tree) (output (query tree) (params ∷ a ∷ [])) (output (query tree) (params ∷ b ∷ []))
    ≡ R (key a) (key b)) where
  pub shown_well : {T : Type 0} (ShowsItem : Row → T → Type 0) (item : T → K)
      → ((tree : ℕ) (r : Row) (t : T) → ShowsItem (shows (query tree) params r) t → key r ≡ item t)
      → (IsLegible : Row → Type 0) → ((tree : ℕ) (r : Row) → kind r ≡ true
      → ((at : ℕ) → at < width → IsReadable (column r (at + 1))) → IsLegible (shows (query tree) params r))
      → (rows : List Row) → HasBegunWith text params old new rows
      → ¬ IsAmiss IsLegible ShowsItem (λ x y. is_lt (R (item x) (item y))) rows
  shown_well ShowsItem item fits IsLegible legible rows given =
      let of_store = (ready given.1.0.was_open).of_store in
      let exists = at of_store.has in
      let tree = tree_named old.now.schema name in
      let db = overlay old.now.trees [] in
      let same_rows : db tree ≡ old.now.trees tree = overlay_low old.now.trees tree exists.known.low in
      let all =
      whole text params old new names (query tree) (is old.now.schema exists.at tree exists.known) rows given in
      let answer = answer_of name columns primary old new text params query is exists (rows ++ all.0) all.1 in
      none_amiss (query tree) tree (scan tree) db params rows all.0 answer same kind key width
      (subst (AreKept kind key width) (sym same_rows) (own of_store)) (orders tree) ShowsItem item (fits tree)
      IsLegible (legible tree)

-- ---- so a read fails only where memory is refused, once its query was answered

pub select_fails : {T : Type 0} (r : Result T Failed) (old new : State) (text : List ℕ) (params : Row)
    (Amiss : List Row → Type 0)
    → ((e : Error) → FailsToQuery text params old new e → FailsWith old new ⊥ (IsSome old.step_limit) (failure_of e))
    → ((rows : List Row) → HasBegunWith text params old new rows → ¬ Amiss rows)
    → IfErr r (λ f. IsQueryFailure text params old new f
    ⊎ ((rows : List Row) × HasBegunWith text params old new rows × ((f ≡ Memory) ⊎ ((f ≡ Disk) × Amiss rows))))
    → IfErr r (FailsFor old new)
select_fails (Ok x) old new text params A why well h = tt
select_fails (Err f) old new text params A why well (inl h) = subst (FailsFor old new) (sym h.1) (why h.0 h.2)
select_fails (Err f) old new text params A why well (inr (rows, given, inl memory)) =
    subst (FailsFor old new) (sym memory) (inr given.1)
select_fails (Err f) old new text params A why well (inr (rows, given, inr h)) = absurd (well rows given h.1)
