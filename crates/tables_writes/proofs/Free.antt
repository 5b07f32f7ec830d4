-- Keys that a map hasn't yet, in order.
use Rattle.std.proofs.Common.{◌≡◌, ℕ, List, [], ◌∷◌, map, Bool, true, false, ◌&&◌, cond, None, Some, refl, sym, ap}
use Rattle.std.proofs.Common.{subst, ◌∙◌, T, String, Global}
use Rattle.std.specs.Prelude.{ℤ}
use Rattle.std.specs.declared.cmp.Ordering.{Ordering}
use Rattle.std.specs.declared.cmp.Ordering.TheVariants.{Less, Equal, Greater}
use Rattle.std.specs.Ordering.{eq_by_cmp, int_cmp, is_eq, is_lt, ordering_then, ordering_reverse}
use Rattle.std.specs.Cmp.{IsTotalOrder, tied_itself, int_cmp_total}
use Rattle.std.specs.List.{AllByRecursion}
use Rattle.std.specs.List.Sorted.{IsStrictlySortedBy}
use Rattle.std.specs.FinMap as finite
use Rattle.std.specs.FinMap.Entries.{is_sorted, below_all}
use Rattle.paths.specs.Root.{bytes_cmp, Set}
use Rattle.tables_sql.specs.Contents.{Pair, PairSet, pair_cmp, numbered_cmp}
use Rattle.tables_sql.proofs.Entries.{map-map}
use Rattle.model.specs.World.{Path}
use Rattle.tables_outline.specs.Maps.{labelled_bytes, seen_set}
use Rattle.tables_outline.proofs.Orders.{bytes_total, pair_total, pair_antisymmetric}
use Rattle.tables_outline.proofs.SetTrees.{set_keys}
use Rattle.tables_writes.specs.Rewritten.{AreDistinct, AreFree}

pub both_T : (a b : Bool) → T (a && b) → T a × T b
both_T true b h = (tt, h)
both_T false b h = absurd h

pub lesser : (r : Ordering) → T (is_lt r) → r ≡ Less
lesser Less h = refl
lesser Equal h = absurd h
lesser Greater h = absurd h

-- one of them is put, and the others are free still
rest_free : {K X : Type 0} {R : K → K → Ordering} → IsTotalOrder R
    → (m : finite.FinMap R X) (k : K) (v : X) (ks : List K)
    → AllByRecursion (λ j. eq_by_cmp R j k ≡ false) ks → AllByRecursion (λ j. finite.get m j ≡ None) ks
    → AllByRecursion (λ j. finite.get (finite.insert m k v) j ≡ None) ks
rest_free o m k v [] distinct free = tt
rest_free o m k v (j ∷ js) distinct free = (
  finite.get-insert o m k v j ∙ ap (λ b. cond b (Some v) (finite.get m j)) distinct.0 ∙ free.0,
  rest_free o m k v js distinct.1 free.1,
)

pub free_next : {K X : Type 0} {R : K → K → Ordering} → IsTotalOrder R
    → (m : finite.FinMap R X) (k : K) (v : X) (ks : List K) → AreFree m (k ∷ ks) → AreFree (finite.insert m k v) ks
free_next o m k v ks h = record { distinct = h.distinct.1; free = rest_free o m k v ks h.distinct.0 h.free.1 }

-- none of a list is there
all_free : {K X Y : Type 0} {R : K → K → Ordering} (m : finite.FinMap R X) (f : Y → K) (ys : List Y)
    → ((y : Y) → finite.get m (f y) ≡ None) → AllByRecursion (λ k. finite.get m k ≡ None) (map f ys)
all_free m f [] h = tt
all_free m f (y ∷ ys) h = (h y, all_free m f ys h)

-- keys that are in order by what they are made of
module _ {L K X : Type 0} (R : L → L → Ordering) (o : IsTotalOrder R) (whole : K → K → Ordering) (f : L → K)
    (by : (a b : L) → whole (f a) (f b) ≡ R a b) where
  below : (x : L) (es : List (L × X)) → T (below_all R x es)
      → AllByRecursion (λ j. eq_by_cmp whole j (f x) ≡ false) (map (λ (e : L × X). f e.0) es)
  below x [] h = tt
  below x (e ∷ es) h =
      let parts = both_T (is_lt (R x e.0)) (below_all R x es) h in
      (ap is_eq (by e.0 x ∙ o.antisymm e.0 x ∙ ap ordering_reverse (lesser (R x e.0) parts.0)), below x es parts.1)

  pub keys_distinct : (es : List (L × X)) → T (is_sorted R es) → AreDistinct whole (map (λ (e : L × X). f e.0) es)
  keys_distinct [] h = tt
  keys_distinct (e ∷ es) h = let parts =
      both_T (below_all R e.0 es) (is_sorted R es) h in (below e.0 es parts.0, keys_distinct es parts.1)

pair_by : (p a b : Path) → pair_cmp (p, a) (p, b) ≡ bytes_cmp a b
pair_by p a b = ap (λ r. ordering_then r (bytes_cmp a b)) (tied_itself bytes_total p)

numbered_by : (p : Path) (a b : ℤ) → numbered_cmp (p, a) (p, b) ≡ int_cmp a b
numbered_by p a b = ap (λ r. ordering_then r (int_cmp a b)) (tied_itself bytes_total p)

-- the outputs of a path that has none
pub outputs_free : (p : Path) (m : finite.FinMap pair_cmp Path) (es : List (List ℕ × Path))
    → ((name : List ℕ) → finite.get m (p, name) ≡ None) → T (is_sorted bytes_cmp es)
    → AreFree m (map (λ (e : List ℕ × Path). (p, e.0)) es)
outputs_free p m es none sorted =
    record {
      distinct = keys_distinct bytes_cmp bytes_total pair_cmp (λ (x : Path). (p, x)) (pair_by p) es sorted;
      free = all_free m (λ (e : List ℕ × Path). (p, e.0)) es (λ e. none e.0);
    }

-- its references
pub references_free : (p : Path) (m : PairSet) (s : Set bytes_cmp) → ((r : Path) → finite.get m (p, r) ≡ None)
    → AreFree m (map (λ (t : Path). (p, t)) (finite.keys s))
references_free p m s none = record {
  distinct =
      subst (AreDistinct pair_cmp) (sym
      (map-map (λ (t : Path). (p, t)) (λ (e : Path × Unit {0}). e.0) (finite.entries s)))
      (keys_distinct bytes_cmp bytes_total pair_cmp (λ (x : Path). (p, x)) (pair_by p) (finite.entries s)
      (finite.entries_sorted s));
  free = all_free m (λ (t : Path). (p, t)) (finite.keys s) none;
}

-- the further pieces of its archive
pub pieces_free : (p : Path) (m : finite.FinMap numbered_cmp (List ℕ)) (es : List (ℤ × List ℕ))
    → ((n : ℤ) → finite.get m (p, n) ≡ None) → T (is_sorted int_cmp es)
    → AreFree m (map (λ (e : ℤ × List ℕ). (p, e.0)) es)
pieces_free p m es none sorted =
    record {
      distinct = keys_distinct int_cmp int_cmp_total numbered_cmp (λ (n : ℤ). (p, n)) (numbered_by p) es sorted;
      free = all_free m (λ (e : ℤ × List ℕ). (p, e.0)) es (λ e. none e.0);
    }

-- runtime roots in order, where there is none
pub runtime_free : (keys : List (String Global × List ℕ))
    → IsStrictlySortedBy (λ a b. pair_cmp (labelled_bytes a) (labelled_bytes b)) keys
    → AreFree (finite.empty {X = Unit {0}} {R = pair_cmp}) (map labelled_bytes keys)
runtime_free keys sorted =
    let s : Set pair_cmp = seen_set pair_cmp labelled_bytes keys in
    record {
      distinct =
          subst (AreDistinct pair_cmp) (set_keys pair_cmp labelled_bytes pair_total pair_antisymmetric keys sorted)
          (keys_distinct pair_cmp pair_total pair_cmp (λ (k : Pair). k) (λ a b. refl) (finite.entries s)
          (finite.entries_sorted s));
      free =
          all_free (finite.empty {X = Unit {0}} {R = pair_cmp}) labelled_bytes keys
          (λ k. finite.get-empty pair_cmp (labelled_bytes k));
    }
