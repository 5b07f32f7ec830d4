-- The rows of a path among rows in order: those between two partition points.
use Rattle.std.proofs.Common.{◌≡◌, ℕ, zero, suc, ◌+◌, ◌<◌, ◌≤◌, List, [], ◌∷◌, map, length, take, drop, get_or, Bool}
use Rattle.std.proofs.Common.{true, false, cond, arith, refl, sym, ap, subst, ◌∙◌, T}
use Rattle.std.specs.Prelude.{⊤, ◌==◌, ◌||◌, Option, Some, None}
use Rattle.std.proofs.lemmas.Bool.{false≢true}
use Rattle.std.proofs.lemmas.List.Sums.{prefix_len_is}
use Rattle.std.specs.declared.cmp.Ordering.{Ordering}
use Rattle.std.specs.declared.cmp.Ordering.TheVariants.{Less, Equal, Greater}
use Rattle.std.specs.Ordering.{is_lt, is_eq, eq_by_cmp, ordering_then, ordering_reverse}
use Rattle.std.specs.List.{AllByRecursion, filter, list_any, prefix_len, slice_get}
use Rattle.std.specs.List.Sorted.{IsPartitionedBy, IsPartitionPoint}
use Rattle.std.specs.Cmp.Lexicographic.{texts_ties}
use Rattle.std.specs.Str.{bytes_eq}
use Rattle.std.specs.FinMap.Entries.{is_sorted, below_all}
use Rattle.paths.specs.Root.{bytes_cmp}
use Rattle.model.specs.World.{Path}
use Rattle.tables_outline.proofs.Orders.{bytes_total, bytes_antisymmetric}
use Rattle.tables_outline.proofs.Ordered.{both_T}
use Rattle.tables_outline.proofs.Puts.{tied_is}
use Rattle.tables_load_objects.specs.Rising.{Rises}

-- ---- the order of paths

turned : (a b : Path) (r : Ordering) → bytes_cmp a b ≡ r → bytes_cmp b a ≡ ordering_reverse r
turned a b r e = bytes_total.antisymm b a ∙ ap ordering_reverse e

-- what isn't below x isn't below p, which x isn't below
not_below : (q x p : Path) → is_lt (bytes_cmp q x) ≡ false → is_lt (bytes_cmp x p) ≡ false
    → is_lt (bytes_cmp q p) ≡ false
not_below q x p h g = by (bytes_cmp q p) refl (bytes_cmp x p) refl
  where
    by : (r : Ordering) → bytes_cmp q p ≡ r → (s : Ordering) → bytes_cmp x p ≡ s → is_lt r ≡ false
    by Less e Less f = absurd (false≢true (sym g ∙ ap is_lt f))
    by Less e Equal f =
        absurd (false≢true (sym h ∙ ap (λ y. is_lt (bytes_cmp q y)) (bytes_antisymmetric x p f) ∙ ap is_lt e))
    by Less e Greater f = absurd (false≢true (sym h ∙ ap is_lt (bytes_total.trans q p x e (turned x p Greater f))))
    by Equal e s f = refl
    by Greater e s f = refl

-- what isn't below x isn't p, if x is above p
unzipped : (q x p : Path) → is_lt (bytes_cmp q x) ≡ false → is_lt (bytes_cmp x p) ≡ false
    → eq_by_cmp bytes_cmp p x ≡ false → eq_by_cmp bytes_cmp p q ≡ false
unzipped q x p h g k = by (eq_by_cmp bytes_cmp p q) refl
  where
    less : is_lt (bytes_cmp p x) ≡ false → (r : Ordering) → bytes_cmp p x ≡ r → ⊥
    less n Less e = false≢true (sym n ∙ ap is_lt e)
    less n Equal e = false≢true (sym k ∙ ap is_eq e)
    less n Greater e = false≢true (sym g ∙ ap is_lt (turned p x Greater e))

    by : (b : Bool) → eq_by_cmp bytes_cmp p q ≡ b → b ≡ false
    by true t =
        absurd (less (ap (λ y. is_lt (bytes_cmp y x)) (tied_is bytes_antisymmetric p q t) ∙ h) (bytes_cmp p x) refl)
    by false t = refl

below_unzipped : (x p : Path) → is_lt (bytes_cmp x p) ≡ true → eq_by_cmp bytes_cmp p x ≡ false
below_unzipped x p h = by (bytes_cmp x p) refl
  where
    by : (r : Ordering) → bytes_cmp x p ≡ r → eq_by_cmp bytes_cmp p x ≡ false
    by Less e = ap is_eq (turned x p Less e)
    by Equal e = absurd (false≢true (sym (ap is_lt e) ∙ h))
    by Greater e = absurd (false≢true (sym (ap is_lt e) ∙ h))

-- ---- tests that pass from the beginning on

no_less : (i : ℕ) → suc i ≤ 0 → ⊥
no_less i h = omega arith

each_at : {X : Type 0} (P : X → Type 0) (xs : List X) → AllByRecursion P xs → (j : ℕ) (d : X) → j < length xs
    → P (get_or xs j d)
each_at P [] h j d lt = absurd (no_less j (omega arith))
each_at P (x ∷ xs) h zero d lt = h.0
each_at P (x ∷ xs) h (suc j) d lt = each_at P xs h.1 j d (omega arith)

module _ {X : Type 0} (q : X → Bool) where
  -- after one that fails all fail
  abbrev Down : List X → Type 0
  Down [] = ⊤
  Down (x ∷ xs) = (q x ≡ false → AllByRecursion (λ y. q y ≡ false) xs) × Down xs

  parted : (xs : List X) → Down xs → IsPartitionedBy q xs
  parted [] h i j d le lt e = e
  parted (x ∷ xs) h zero zero d le lt e = e
  parted (x ∷ xs) h zero (suc j) d le lt e = by (q x) refl
    where
      by : (b : Bool) → q x ≡ b → b ≡ true
      by true t = refl
      by false t = absurd (false≢true (sym (each_at (λ y. q y ≡ false) xs (h.0 t) j d (omega arith)) ∙ e))
  parted (x ∷ xs) h (suc i) zero d le lt e = absurd (no_less i (omega arith))
  parted (x ∷ xs) h (suc i) (suc j) d le lt e = parted xs h.1 i j d (omega arith) (omega arith) e

  pub prefix_is : (xs : List X) (n : ℕ) → n ≤ length xs → IsPartitionPoint (λ y. q y ≡ true) (λ y. q y ≡ false) xs n
      → prefix_len q xs ≡ n
  prefix_is [] n le point = omega arith
  prefix_is (x ∷ xs) n le point =
      prefix_len_is q (x ∷ xs) n x le (λ k l. point.0 k x (omega arith) l) (λ l. point.1 n x (omega arith) l)

  none_pass : (xs : List X) → AllByRecursion (λ y. q y ≡ false) xs → filter q xs ≡ []
  none_pass [] h = refl
  none_pass (x ∷ xs) h = ap (λ b. cond b (x ∷ filter q xs) (filter q xs)) h.0 ∙ none_pass xs h.1

-- ---- rows of a path

module _ {X : Type 0} (key : X → Path) (p : Path) where
  abbrev pub below : X → Bool
  below x = is_lt (bytes_cmp (key x) p)

  abbrev pub own : X → Bool
  own x = eq_by_cmp bytes_cmp p (key x)

  -- the same by the texts
  pub own_texts : (λ (x : X). bytes_eq p (key x)) ≡ own
  own_texts i x = texts_ties p (key x) i

  abbrev Later : X → List X → Type 0
  Later x xs = AllByRecursion (λ r. is_lt (bytes_cmp r (key x)) ≡ false) (map key xs)

  later_above : (x : X) (xs : List X) → Later x xs → below x ≡ false → AllByRecursion (λ y. below y ≡ false) xs
  later_above x [] h t = tt
  later_above x (y ∷ ys) h t = (not_below (key y) (key x) p h.0 t, later_above x ys h.1 t)

  later_differ : (x : X) (xs : List X) → Later x xs → below x ≡ false → own x ≡ false
      → AllByRecursion (λ y. own y ≡ false) xs
  later_differ x [] h t k = tt
  later_differ x (y ∷ ys) h t k = (unzipped (key y) (key x) p h.0 t k, later_differ x ys h.1 t k)

  below_down : (xs : List X) → Rises (map key xs) → Down below xs
  below_down [] up = tt
  below_down (x ∷ xs) up = (later_above x xs up.0, below_down xs up.1)

  pub below_parted : (xs : List X) → Rises (map key xs) → IsPartitionedBy below xs
  below_parted xs up = parted below xs (below_down xs up)

  abbrev Above : List X → Type 0
  Above xs = AllByRecursion (λ y. below y ≡ false) xs

  own_down : (xs : List X) → Rises (map key xs) → Above xs → Down own xs
  own_down [] up h = tt
  own_down (x ∷ xs) up h = (later_differ x xs up.0 h.0, own_down xs up.1 h.1)

  front_own : (xs : List X) → Rises (map key xs) → Above xs → filter own xs ≡ take (prefix_len own xs) xs
  front_own [] up h = refl
  front_own (x ∷ xs) up h = by (own x) refl (front_own xs up.1 h.1)
    where
      by : (b : Bool) → own x ≡ b → filter own xs ≡ take (prefix_len own xs) xs
          → cond b (x ∷ filter own xs) (filter own xs) ≡ take (cond b (1 + prefix_len own xs) 0) (x ∷ xs)
      by true t rest =
          let one : suc (prefix_len own xs) ≡ 1 + prefix_len own xs = omega arith in
          ap (λ (l : List X). x ∷ l) rest ∙ ap (λ n. take n (x ∷ xs)) one
      by false t rest = none_pass own xs (later_differ x xs up.0 h.0 t)

  none_own : (xs : List X) → AllByRecursion (λ y. own y ≡ false) xs → list_any own xs ≡ false
  none_own [] h = refl
  none_own (x ∷ xs) h = ap (λ b. b || list_any own xs) h.0 ∙ none_own xs h.1

  head_own : (x : X) (xs : List X) → Later x xs → below x ≡ false → list_any own (x ∷ xs) ≡ own x
  head_own x xs later t = by (own x) refl
    where
      by : (b : Bool) → own x ≡ b → (b || list_any own xs) ≡ b
      by true k = refl
      by false k = none_own xs (later_differ x xs later t k)

  -- a row, if there is one, is the path's
  abbrev pub is_own : Option X → Bool
  is_own None = false
  is_own (Some x) = own x

  any_own : (xs : List X) → Rises (map key xs) → list_any own xs ≡ is_own (slice_get (drop (prefix_len below xs) xs) 0)
  any_own [] up = refl
  any_own (x ∷ xs) up = by (below x) refl (any_own xs up.1)
    where
      by : (b : Bool) → below x ≡ b → list_any own xs ≡ is_own (slice_get (drop (prefix_len below xs) xs) 0)
          → list_any own (x ∷ xs) ≡ is_own (slice_get (drop (cond b (1 + prefix_len below xs) 0) (x ∷ xs)) 0)
      by true t rest =
          let one : suc (prefix_len below xs) ≡ 1 + prefix_len below xs = omega arith in
          ap (λ b. b || list_any own xs) (below_unzipped (key x) p t) ∙ rest
          ∙ ap (λ n. is_own (slice_get (drop n (x ∷ xs)) 0)) one
      by false t rest = head_own x xs up.0 t

  -- what is left after those below the path
  record IsAfter (xs ys : List X) : Type 0 where
    pub rises : Rises (map key ys)
    pub above : Above ys
    pub same : filter own xs ≡ filter own ys

  after_is : (xs : List X) → Rises (map key xs) → IsAfter xs (drop (prefix_len below xs) xs)
  after_is [] up = record { rises = tt; above = tt; same = refl }
  after_is (x ∷ xs) up = by (below x) refl (after_is xs up.1)
    where
      by : (b : Bool) → below x ≡ b → IsAfter xs (drop (prefix_len below xs) xs)
          → IsAfter (x ∷ xs) (drop (cond b (1 + prefix_len below xs) 0) (x ∷ xs))
      by true t rest =
          let one : suc (prefix_len below xs) ≡ 1 + prefix_len below xs = omega arith in
          let same : filter own (x ∷ xs) ≡ filter own xs =
          ap (λ b. cond b (x ∷ filter own xs) (filter own xs)) (below_unzipped (key x) p t) in
          subst (IsAfter (x ∷ xs)) (ap (λ n. drop n (x ∷ xs)) one)
          (record { rises = rest.rises; above = rest.above; same = same ∙ rest.same })
      by false t rest = record { rises = up; above = (t, later_above x xs up.0 t); same = refl }

  module _ (xs rest : List X) (up : Rises (map key xs)) (start : ℕ) (within : start ≤ length xs)
      (first : IsPartitionPoint (λ y. below y ≡ true) (λ y. below y ≡ false) xs start)
      (back : rest ≡ drop start xs) where
    after_here : IsAfter xs rest
    after_here =
        subst (IsAfter xs) (ap (λ n. drop n xs) (prefix_is below xs start within first) ∙ sym back) (after_is xs up)

    -- the first one that is left decides
    pub first_found : (o : Option X) → o ≡ slice_get rest 0 → list_any own xs ≡ is_own o
    first_found o is =
        any_own xs up ∙ ap (λ n. is_own (slice_get (drop n xs) 0)) (prefix_is below xs start within first)
        ∙ ap (λ (l : List X). is_own (slice_get l 0)) (sym back) ∙ ap is_own (sym is)

    pub own_parted : IsPartitionedBy own rest
    own_parted = parted own rest (own_down rest after_here.rises after_here.above)

    pub group_found : (count : ℕ) → count ≤ length rest
        → IsPartitionPoint (λ y. own y ≡ true) (λ y. own y ≡ false) rest count → take count rest ≡ filter own xs
    group_found count bound second =
        ap (λ n. take n rest) (sym (prefix_is own rest count bound second))
        ∙ sym (front_own rest after_here.rises after_here.above) ∙ sym after_here.same

-- ---- rows that are a map's entries

abbrev by_both : {L : Type 0} → (L → L → Ordering) → Path × L → Path × L → Ordering
by_both S a b = ordering_then (bytes_cmp a.0 b.0) (S a.1 b.1)

not_after : (a b : Path) (s : Ordering) → T (is_lt (ordering_then (bytes_cmp a b) s)) → is_lt (bytes_cmp b a) ≡ false
not_after a b s h = by (bytes_cmp a b) refl h
  where
    by : (r : Ordering) → bytes_cmp a b ≡ r → T (is_lt (ordering_then r s)) → is_lt (bytes_cmp b a) ≡ false
    by Less e h = ap is_lt (turned a b Less e)
    by Equal e h = ap is_lt (turned a b Equal e)
    by Greater e h = absurd h

module _ {L X : Type 0} (S : L → L → Ordering) where
  each_later : (e : (Path × L) × X) (es : List ((Path × L) × X)) → T (below_all (by_both S) e.0 es)
      → AllByRecursion (λ r. is_lt (bytes_cmp r e.0.0) ≡ false) (map (λ (d : (Path × L) × X). d.0.0) es)
  each_later e [] h = tt
  each_later e (d ∷ es) h =
      let parts = both_T (is_lt (by_both S e.0 d.0)) (below_all (by_both S) e.0 es) h in
      (not_after e.0.0 d.0.0 (S e.0.1 d.0.1) parts.0, each_later e es parts.1)

  pub paths_rise : (es : List ((Path × L) × X)) → T (is_sorted (by_both S) es)
      → Rises (map (λ (e : (Path × L) × X). e.0.0) es)
  paths_rise [] h = tt
  paths_rise (e ∷ es) h =
      let parts = both_T (below_all (by_both S) e.0 es) (is_sorted (by_both S) es) h in
      (each_later e es parts.0, paths_rise es parts.1)

-- ---- keys of a map

after_less : (a b : Path) → T (is_lt (bytes_cmp a b)) → is_lt (bytes_cmp b a) ≡ false
after_less a b h = by (bytes_cmp a b) refl h
  where
    by : (r : Ordering) → bytes_cmp a b ≡ r → T (is_lt r) → is_lt (bytes_cmp b a) ≡ false
    by Less e h = ap is_lt (turned a b Less e)
    by Equal e h = absurd h
    by Greater e h = absurd h

module _ {X : Type 0} where
  each_above : (e : Path × X) (es : List (Path × X)) → T (below_all bytes_cmp e.0 es)
      → AllByRecursion (λ r. is_lt (bytes_cmp r e.0) ≡ false) (map (λ (d : Path × X). d.0) es)
  each_above e [] h = tt
  each_above e (d ∷ es) h =
      let parts = both_T (is_lt (bytes_cmp e.0 d.0)) (below_all bytes_cmp e.0 es) h in
      (after_less e.0 d.0 parts.0, each_above e es parts.1)

  pub keys_rise : (es : List (Path × X)) → T (is_sorted bytes_cmp es) → Rises (map (λ (d : Path × X). d.0) es)
  keys_rise [] h = tt
  keys_rise (e ∷ es) h =
      let parts = both_T (below_all bytes_cmp e.0 es) (is_sorted bytes_cmp es) h in
      (each_above e es parts.0, keys_rise es parts.1)

-- ---- lists

pub map_both : {A B C : Type 0} (f : A → B) (k : B → C) (xs : List A) → map (λ x. k (f x)) xs ≡ map k (map f xs)
map_both f k [] = refl
map_both f k (x ∷ xs) = ap (λ l. k (f x) ∷ l) (map_both f k xs)

pub filter_mapped : {A B : Type 0} (f : A → B) (q : B → Bool) (xs : List A)
    → map f (filter (λ x. q (f x)) xs) ≡ filter q (map f xs)
filter_mapped f q [] = refl
filter_mapped {A} {B} f q (x ∷ xs) = by (q (f x)) (filter_mapped f q xs)
  where
    by : (b : Bool) → map f (filter (λ x. q (f x)) xs) ≡ filter q (map f xs)
        → map f (cond b (x ∷ filter (λ x. q (f x)) xs) (filter (λ x. q (f x)) xs))
        ≡ cond b (f x ∷ filter q (map f xs)) (filter q (map f xs))
    by true rest = ap (λ (l : List B). f x ∷ l) rest
    by false rest = rest

pub none_mapped : {A B : Type 0} (f : A → B) (xs : List A) → map f xs ≡ [] → xs ≡ []
none_mapped f [] h = refl
none_mapped f (x ∷ xs) h = absurd (let e = h in cc)

no_suc : (n : ℕ) → suc n ≡ 0 → ⊥
no_suc n e = omega arith

length_none : {A : Type 0} (xs : List A) → length xs ≡ 0 → xs ≡ []
length_none [] e = refl
length_none (x ∷ xs) e = absurd (no_suc (length xs) e)

pub none_left : {A : Type 0} (xs : List A) → (length xs == 0) ≡ true → xs ≡ []
none_left xs h = let e : length xs ≡ 0 = grind (arith, h) in length_none xs e
