-- Roots whose targets are valid: the others reach nothing.
use Rattle.std.proofs.Common.{◌≡◌, ℕ, suc, ◌+◌, ◌<◌, Bool, true, false, cond, ◌||◌, List, [], ◌∷◌, map, length, get_or}
use Rattle.std.proofs.Common.{Option, Some, None, is_some, refl, sym, ap, ◌∙◌, subst, arith}
use Rattle.std.specs.Prelude.{All, Contains, filter}
use Rattle.std.specs.List.{list_any, find, range_with_len}
use Rattle.std.specs.Option.{option_map}
use Rattle.std.specs.Ordering.{eq_by_cmp}
use Rattle.std.specs.FinMap as finite
use Rattle.std.proofs.lemmas.Bool.{and_parts, false≢true}
use Rattle.std.proofs.lemmas.List.{length-map}
use Rattle.std.proofs.lemmas.List.Elements.{All-cons}
use Rattle.paths.specs.Root.{Root, bytes_cmp, in_order}
use Rattle.live.specs.Exact.{IsExact}
use Rattle.live.specs.Graph.{Keep}
use Rattle.live.specs.Live.{is_live}
use Rattle.live.specs.Marks.{Marking, first_of}
use Rattle.live.specs.Numbering.{AllValid, RootsRise, graph_of, no_root, path_at, paths_of, root_at}
use Rattle.live.specs.Reach.{reaches}
use Rattle.live.proofs.Members.{some_of_any}
use Rattle.live.proofs.Order.{in_order_is}
use Rattle.model.specs.World.{Path}
use Rattle.tables_outline.specs.Outline.{OutlineValue}
use Rattle.tables_outline.proofs.Orders.{bytes_total, bytes_antisymmetric}
use Rattle.tables_outline.proofs.Puts.{tied_is}
use Rattle.tables_outline.proofs.Reported.{has-reported}
use Rattle.tables_outline.specs.Turned.{links_in}
use Rattle.store_reach.specs.Linked.{rows_in}
use Rattle.store_reach.proofs.Rising.{paths_in}

-- whether the target of a root is valid
abbrev pub aims_well : OutlineValue → Root → Bool
aims_well o r = finite.contains_key o.objects r.target

-- a path that a map has is among its keys
pub among_keys : (o : OutlineValue) (p : Path) → finite.contains_key o.objects p ≡ true
    → Contains (finite.keys o.objects) p
among_keys o p h =
    let found =
    some_of_any (eq_by_cmp bytes_cmp p) (finite.keys o.objects) (sym (finite.contains_key-keys o.objects p) ∙ h) in
    subst (Contains (finite.keys o.objects)) (sym (tied_is bytes_antisymmetric p found.0 found.2)) found.1

-- each that passes a test passes it
passing : {X : Type 0} (p : X → Bool) (xs : List X) → All (λ x. p x ≡ true) (filter p xs)
passing p [] = λ k d l. absurd (omega (arith, l))
passing {X} p (x ∷ xs) = by (p x) refl (passing p xs)
  where
    by : (b : Bool) → p x ≡ b → All (λ y. p y ≡ true) (filter p xs)
        → All (λ y. p y ≡ true) (cond b (x ∷ filter p xs) (filter p xs))
    by true e rest = All-cons (λ y. p y ≡ true) x (filter p xs) e rest
    by false e rest = rest

pub valid_all : (o : OutlineValue) (roots : List Root) → AllValid (rows_in o) (filter (aims_well o) roots)
valid_all o roots k l =
    subst (λ (ps : List Path). Contains ps (root_at (filter (aims_well o) roots) k).target) (sym (paths_in o))
    (among_keys o (root_at (filter (aims_well o) roots) k).target (passing (aims_well o) roots k no_root l))

-- ---- the others reach nothing

pub reaches_from_valid : (keep : Keep) (o : OutlineValue) (a z : Path) → reaches keep (graph_of (rows_in o)) a z ≡ true
    → finite.contains_key o.objects a ≡ true
unfolding reaches
reaches_from_valid keep o a z h =
    sym (has-reported bytes_total bytes_antisymmetric (λ _ x. links_in x) o.objects a) ∙ (and_parts _ _ h).0

module _ {X : Type 0} (f p : X → Bool) (keeps : (x : X) → f x ≡ true → p x ≡ true) where
  pub any_kept : (xs : List X) → list_any f (filter p xs) ≡ list_any f xs
  any_kept [] = refl
  any_kept (x ∷ xs) = by (p x) refl (any_kept xs)
    where
      missed : (b : Bool) → f x ≡ b → p x ≡ false → list_any f xs ≡ (b || list_any f xs)
      missed true e n = absurd (false≢true (sym n ∙ keeps x e))
      missed false e n = refl

      by : (b : Bool) → p x ≡ b → list_any f (filter p xs) ≡ list_any f xs
          → list_any f (cond b (x ∷ filter p xs) (filter p xs)) ≡ (f x || list_any f xs)
      by true e later = ap (λ b. f x || b) later
      by false e later = later ∙ missed (f x) refl e

  pub filter_kept : (xs : List X) → filter f (filter p xs) ≡ filter f xs
  filter_kept [] = refl
  filter_kept (x ∷ xs) = by (p x) refl (filter_kept xs)
    where
      missed : (b : Bool) → f x ≡ b → p x ≡ false → filter f xs ≡ cond b (x ∷ filter f xs) (filter f xs)
      missed true e n = absurd (false≢true (sym n ∙ keeps x e))
      missed false e n = refl

      by : (b : Bool) → p x ≡ b → filter f (filter p xs) ≡ filter f xs
          → filter f (cond b (x ∷ filter p xs) (filter p xs)) ≡ cond (f x) (x ∷ filter f xs) (filter f xs)
      by true e later = ap (λ l. cond (f x) (x ∷ l) l) later
      by false e later = later ∙ missed (f x) refl e

-- ---- what the marks say

pub some_found : {X : Type 0} (f : X → Bool) (xs : List X) → is_some (find f xs) ≡ list_any f xs
some_found f [] = refl
some_found f (x ∷ xs) = by (f x) (some_found f xs)
  where
    by : (b : Bool) → is_some (find f xs) ≡ list_any f xs → is_some (cond b (Some x) (find f xs)) ≡ (b || list_any f xs)
    by true later = refl
    by false later = later

some_mapped : {X Y : Type 0} (f : X → Y) (r : Option X) → is_some (option_map f r) ≡ is_some r
some_mapped f None = refl
some_mapped f (Some x) = refl

tested : {X : Type 0} (f : ℕ → Bool) (q : X → Bool) (d : X) (a : ℕ) (xs : List X)
    → ((i : ℕ) → i < length xs → f (a + i) ≡ q (get_or xs i d)) → map f (range_with_len a (length xs)) ≡ map q xs
tested f q d a [] h = refl
tested {X} f q d a (x ∷ xs) h = λ i. first i ∷ tested f q d (a + 1) xs later i
  where
    first : f a ≡ q x
    first = ap f zero_more ∙ h 0 (omega arith)
      where
        zero_more : a ≡ a + 0
        zero_more = omega arith

    later : (i : ℕ) → i < length xs → f ((a + 1) + i) ≡ q (get_or xs i d)
    later i l = ap f one_more ∙ h (suc i) (omega (arith, l))
      where
        one_more : (a + 1) + i ≡ a + suc i
        one_more = omega arith

module _ (keep : Keep) (o : OutlineValue) (roots : List Root) where
  -- a place has a mark where some root reaches its path
  marked : RootsRise (filter (aims_well o) roots) → (m : Marking)
      → IsExact keep (rows_in o) (filter (aims_well o) roots) m → (i : ℕ) → i < length (rows_in o)
      → is_some (first_of m i) ≡ is_live keep (graph_of (rows_in o)) roots (path_at (rows_in o) i)
  marked rise m exact i l =
      let valid = filter (aims_well o) roots in
      let p = path_at (rows_in o) i in
      let test : Root → Bool = λ r. reaches keep (graph_of (rows_in o)) r.target p in
      sym (some_mapped (root_at valid) (first_of m i)) ∙ ap is_some (exact.first i l) ∙ some_found test (in_order valid)
      ∙ ap (list_any test) (in_order_is valid rise)
      ∙ any_kept test (aims_well o) (λ r h. reaches_from_valid keep o r.target p h) roots

  -- of each path whether some root reaches it
  pub all_marked : RootsRise (filter (aims_well o) roots) → (m : Marking)
      → IsExact keep (rows_in o) (filter (aims_well o) roots) m → (n : ℕ) → n ≡ length (rows_in o)
      → map (λ i. is_some (first_of m i)) (range_with_len 0 n)
      ≡ map (is_live keep (graph_of (rows_in o)) roots) (finite.keys o.objects)
  all_marked rise m exact n same =
      let q = is_live keep (graph_of (rows_in o)) roots in
      let count : length (rows_in o) ≡ length (paths_of (rows_in o)) = sym (length-map (rows_in o) (λ r. r.0)) in
      ap (λ k. map (λ i. is_some (first_of m i)) (range_with_len 0 k)) (same ∙ count)
      ∙ tested (λ i. is_some (first_of m i)) q [] 0 (paths_of (rows_in o))
      (λ i l. let zero : 0 + i ≡ i = omega arith in
      ap (λ k. is_some (first_of m k)) zero ∙ marked rise m exact i (omega (arith, l, count)))
      ∙ ap (map q) (paths_in o)
