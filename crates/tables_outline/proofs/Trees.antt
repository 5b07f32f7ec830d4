-- Trees as finite maps and sets: what a call changes, and what is listed.
use Rattle.std.proofs.Common.{◌≡◌, List, [], ◌∷◌, map, Bool, true, false, cond, ◌&&◌, Some, None, Option, option_map}
use Rattle.std.proofs.Common.{is_some, Bor, refl, sym, ap, ◌∙◌, subst, T}
use Rattle.std.specs.Option.{option_copied}
use Rattle.std.specs.declared.cmp.Ordering.{Ordering}
use Rattle.std.specs.declared.cmp.Ordering.TheVariants.{Less, Equal, Greater}
use Rattle.std.specs.Ordering.{eq_by_cmp, is_lt, match_ordering}
use Rattle.std.specs.Cmp.{IsTotalOrder, eq_by_cmp_equiv}
use Rattle.std.specs.List.{AllByRecursion}
use Rattle.std.specs.List.Sorted.{IsStrictlySortedBy}
use Rattle.std.specs.Map.{lookup, remove_entry, keys_of}
use Rattle.std.specs.BTreeMap.{insert_entry}
use Rattle.std.specs.FinMap as finite
use Rattle.std.specs.FinMap.Entries.{find as find_entry, put, by_order, is_sorted, below_all, find-put}
use Rattle.tables_outline.specs.Maps.{seen_map}

pub from_both : (a b : Bool) → T a → T b → T (a && b)
from_both true b p q = q
from_both false b p q = absurd p

module _ {K X L Y : Type 0} (R : L → L → Ordering) (key : K → L) (value : X → Y) where
  abbrev pub seen : List (K × X) → List (L × Y)
  seen es = map (λ e. (key e.0, value e.1)) es

  -- the order of keys by what they are seen as
  abbrev pub cmp : K → K → Ordering
  cmp a b = R (key a) (key b)

  find-seen : (q : L) (es : List (K × X))
      → find_entry R q (seen es) ≡ option_map value (lookup (λ k. eq_by_cmp R q (key k)) es)
  find-seen q [] = refl
  find-seen q (e ∷ es) = by (eq_by_cmp R q (key e.0)) (find-seen q es)
    where
      by : (b : Bool) → find_entry R q (seen es) ≡ option_map value (lookup (λ k. eq_by_cmp R q (key k)) es)
          → cond b (Some (value e.1)) (find_entry R q (seen es))
          ≡ option_map value (cond b (Some e.1) (lookup (λ k. eq_by_cmp R q (key k)) es))
      by true later = refl
      by false later = later

  seen-insert : (es : List (K × X)) (k : K) (v : X) → seen (insert_entry cmp es k v) ≡ put R (key k) (value v) (seen es)
  seen-insert [] k v = refl
  seen-insert (e ∷ es) k v = by (cmp k e.0) (seen-insert es k v)
    where
      by : (r : Ordering) → seen (insert_entry cmp es k v) ≡ put R (key k) (value v) (seen es)
          → seen (match_ordering r ((k, v) ∷ e ∷ es) ((e.0, v) ∷ es) (e ∷ insert_entry cmp es k v))
          ≡ by_order r ((key k, value v) ∷ (key e.0, value e.1) ∷ seen es) ((key e.0, value v) ∷ seen es)
          ((key e.0, value e.1) ∷ put R (key k) (value v) (seen es))
      by Less later = refl
      by Equal later = refl
      by Greater later = ap (λ l. (key e.0, value e.1) ∷ l) later

  below_seen : (x : K) (es : List (K × X)) → AllByRecursion (λ y. cmp x y ≡ Less) (keys_of es)
      → T (below_all R (key x) (seen es))
  below_seen x [] h = tt
  below_seen x (e ∷ es) h =
      from_both (is_lt (cmp x e.0)) (below_all R (key x) (seen es)) (subst (λ r. T (is_lt r)) (sym h.0) tt)
      (below_seen x es h.1)

  pub sorted_seen : (es : List (K × X)) → IsStrictlySortedBy cmp (keys_of es) → T (is_sorted R (seen es))
  unfolding IsStrictlySortedBy
  sorted_seen [] h = tt
  sorted_seen (e ∷ es) h =
      from_both (below_all R (key e.0) (seen es)) (is_sorted R (seen es)) (below_seen e.0 es h.0) (sorted_seen es h.1)

  module _ (o : IsTotalOrder R) (same : finite.IsAntisymmetric R) where
    pub get_seen : (es : List (K × X)) (q : L)
        → finite.get (seen_map R key value es) q ≡ option_map value (lookup (λ k. eq_by_cmp R q (key k)) es)
    get_seen es q = finite.get-from_entries o (seen es) q ∙ find-seen q es

    some_seen : (r : Option X) → is_some (option_map value r) ≡ is_some r
    some_seen None = refl
    some_seen (Some x) = refl

    pub has_seen : (es : List (K × X)) (q : L)
        → finite.contains_key (seen_map R key value es) q ≡ is_some (lookup (λ k. eq_by_cmp R q (key k)) es)
    has_seen es q = ap is_some (get_seen es q) ∙ some_seen (lookup (λ k. eq_by_cmp R q (key k)) es)

    pub inserted : (es : List (K × X)) (k : K) (v : X)
        → seen_map R key value (insert_entry cmp es k v) ≡ finite.insert (seen_map R key value es) (key k) (value v)
    inserted es k v = ap finite.from_entries (seen-insert es k v) ∙ finite.same_map o same _ _ (λ q.
        finite.get-from_entries o (put R (key k) (value v) (seen es)) q ∙ find-put R o q (key k) (value v) (seen es)
        ∙ sym (finite.get-insert o (seen_map R key value es) (key k) (value v) q
        ∙ ap (cond (eq_by_cmp R q (key k)) (Some (value v))) (finite.get-from_entries o (seen es) q)))

    -- a map in which the same is found
    pub seen_as : (es : List (K × X)) (m : finite.FinMap R Y)
        → ((q : L) → option_map value (lookup (λ k. eq_by_cmp R q (key k)) es) ≡ finite.get m q)
        → seen_map R key value es ≡ m
    seen_as es m is = finite.same_map o same _ _ (λ q. get_seen es q ∙ is q)

    -- ---- removal

    other : (k q : L) (es : List (K × X)) → eq_by_cmp R q k ≡ false
        → lookup (λ x. eq_by_cmp R q (key x)) (remove_entry (λ x. eq_by_cmp R k (key x)) es)
        ≡ lookup (λ x. eq_by_cmp R q (key x)) es
    other k q [] n = refl
    other k q (e ∷ es) n = by (eq_by_cmp R k (key e.0)) refl (other k q es n)
      where
        by : (b : Bool) → eq_by_cmp R k (key e.0) ≡ b
            → lookup (λ x. eq_by_cmp R q (key x)) (remove_entry (λ x. eq_by_cmp R k (key x)) es)
            ≡ lookup (λ x. eq_by_cmp R q (key x)) es
            → lookup (λ x. eq_by_cmp R q (key x)) (cond b es (e ∷ remove_entry (λ x. eq_by_cmp R k (key x)) es))
            ≡ lookup (λ x. eq_by_cmp R q (key x)) (e ∷ es)
        by true h later =
            ap (λ b. cond b (Some e.1) (lookup (λ x. eq_by_cmp R q (key x)) es))
            (sym ((eq_by_cmp_equiv o).symm q (key e.0) ∙ sym ((eq_by_cmp_equiv o).congr k (key e.0) q h)
            ∙ (eq_by_cmp_equiv o).symm k q ∙ n))
        by false h later = ap (cond (eq_by_cmp R q (key e.0)) (Some e.1)) later

    -- an entry that was found at a key is removed, and the key is free then
    pub removed : (es : List (K × X)) (k : L)
        → lookup (λ x. eq_by_cmp R k (key x)) (remove_entry (λ x. eq_by_cmp R k (key x)) es) ≡ None
        → seen_map R key value (remove_entry (λ x. eq_by_cmp R k (key x)) es)
        ≡ finite.remove (seen_map R key value es) k
    removed es k free = finite.same_map o same _ _ (λ q.
        get_seen (remove_entry (λ x. eq_by_cmp R k (key x)) es) q ∙ by q (eq_by_cmp R q k) refl
        ∙ sym (finite.get-remove o (seen_map R key value es) k q ∙ ap (cond (eq_by_cmp R q k) None) (get_seen es q)))
      where
        at : (q : L) (x : K) → eq_by_cmp R q k ≡ true → eq_by_cmp R q (key x) ≡ eq_by_cmp R k (key x)
        at q x h = (eq_by_cmp_equiv o).congr q k (key x) h

        lookup_at : (q : L) (xs : List (K × X)) → eq_by_cmp R q k ≡ true
            → lookup (λ x. eq_by_cmp R q (key x)) xs ≡ lookup (λ x. eq_by_cmp R k (key x)) xs
        lookup_at q xs h = λ i. lookup (λ x. at q x h i) xs

        by : (q : L) (b : Bool) → eq_by_cmp R q k ≡ b
            → option_map value (lookup (λ x. eq_by_cmp R q (key x)) (remove_entry (λ x. eq_by_cmp R k (key x)) es))
            ≡ cond b None (option_map value (lookup (λ x. eq_by_cmp R q (key x)) es))
        by q true h = ap (option_map value) (lookup_at q (remove_entry (λ x. eq_by_cmp R k (key x)) es) h ∙ free)
        by q false h = ap (option_map value) (other k q es h)

    -- ---- listing

    pub listed : (es : List (K × X)) → IsStrictlySortedBy cmp (keys_of es)
        → finite.entries (seen_map R key value es) ≡ seen es
    listed es h =
        let sorted = sorted_seen es h in
        ap finite.entries (finite.same_map o same (seen_map R key value es) (finite.from_sorted {R = R} (seen es))
        (λ q. finite.get-from_entries o (seen es) q ∙ sym (finite.get-from_sorted R (seen es) q sorted)))
        ∙ finite.entries-from_sorted R (seen es) sorted

    firsts : (es : List (K × X)) → map (λ (e : L × Y). e.0) (seen es) ≡ map key (keys_of es)
    firsts [] = refl
    firsts (e ∷ es) = ap (λ l. key e.0 ∷ l) (firsts es)

    pub keys_seen : (es : List (K × X)) → IsStrictlySortedBy cmp (keys_of es)
        → finite.keys (seen_map R key value es) ≡ map key (keys_of es)
    keys_seen es h = ap (map (λ (e : L × Y). e.0)) (listed es h) ∙ firsts es

-- what is found by a reference
pub seen_copied : {X Y : Type 0} (f : X → Y) (r : Option (Bor X))
    → option_map (λ (p : Bor X). f p.now) r ≡ option_map f (option_copied r)
seen_copied f None = refl
seen_copied f (Some p) = refl

-- entries that are seen as they are
pub seen_same : {K X : Type 0} (es : List (K × X)) → map (λ (e : K × X). let d : K × X = (e.0, e.1) in d) es ≡ es
seen_same [] = refl
seen_same (e ∷ es) = ap (λ l. e ∷ l) (seen_same es)
