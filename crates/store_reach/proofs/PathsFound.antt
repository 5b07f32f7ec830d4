-- The paths that a walk back found, in order.
use Rattle.std.proofs.Common.{◌≡◌, ℕ, ◌<◌, Bool, true, false, cond, ◌||◌, List, [], ◌∷◌, ◌++◌, map, length, refl}
use Rattle.std.proofs.Common.{sym, ap, ◌∙◌, subst, IsTrue, arith}
use Rattle.std.specs.Prelude.{Contains, filter}
use Rattle.std.specs.BTreeSet.{BTreeSet}
use Rattle.std.specs.FinMap as finite
use Rattle.std.specs.List.{range_with_len}
use Rattle.std.specs.List.Sorted.{IsStrictlySortedBy}
use Rattle.std.proofs.lemmas.List.FromFn.{get_or-range_with_len, length-range_with_len}
use Rattle.std.proofs.lemmas.List.Folds.{list_any-append}
use Rattle.std.proofs.lemmas.List.Kept.{IsStrictlySortedBy-filter}
use Rattle.std.proofs.lemmas.Map.Lookups.{btree_set_from_contains}
use Rattle.paths.specs.Root.{bytes_cmp}
use Rattle.live.specs.Graph.{Graph, Keep, Path, holds, is_valid, same}
use Rattle.live.specs.Reach.{reaches}
use Rattle.live.specs.Reaching.{AreNumbers, Reaching, is_marked, reaches_any}
use Rattle.live.proofs.Members.{any_from, some_of_any}
use Rattle.live.proofs.Reach.{decided, holds_valid, same_is, same_itself}
use Rattle.model.proofs.Filtered.{from_filtered, from_mapped, in_filtered, in_mapped}
use Rattle.tables_outline.specs.Links.{LinksValue, all_entries}
use Rattle.tables_outline.specs.LinkNames.{name_at}
use Rattle.tables_outline.proofs.Bools.{or_nothing, same_tests}
use Rattle.tables_outline.proofs.LinkNumbers.{count}
use Rattle.tables_outline.proofs.Orders.{bytes_total, bytes_antisymmetric}
use Rattle.tables_outline.proofs.Reported.{has-reported}
use Rattle.tables_outline.specs.Outline.{OutlineValue}
use Rattle.tables_outline.specs.Turned.{links_in}
use Rattle.store_reach.specs.Linked.{graph_in}
use Rattle.store_reach.specs.Reached.{IsFound}
use Rattle.store_reach.proofs.Rising.{keys_sorted}

-- ---- two lists in order that have the same paths

pub same_ordered : (xs ys : List Path) → IsStrictlySortedBy bytes_cmp xs → IsStrictlySortedBy bytes_cmp ys
    → ((p : Path) → holds xs p ≡ holds ys p) → xs ≡ ys
same_ordered xs ys rise also alike =
    let s : BTreeSet Path = record { keys = xs } in
    let t : BTreeSet Path = record { keys = ys } in
    btree_set_from_contains bytes_total s t rise also alike bytes_antisymmetric

-- ---- a path more

pub inserted : (before after names : List Path) (key : Path)
    → ((q : Path) → holds after q ≡ cond (same key q) true (holds before q))
    → ((q : Path) → holds before q ≡ holds names q) → (q : Path) → holds after q ≡ holds (names ++ key ∷ []) q
inserted before after names key into so_far q =
    into q ∙ ap (λ b. cond (same key q) true b) (so_far q) ∙ by (same key q) (holds names q)
    ∙ ap (λ b. holds names q || b) (turned ∙ sym (or_nothing (same q key)))
    ∙ sym (list_any-append (same q) names (key ∷ []))
  where
    by : (a b : Bool) → cond a true b ≡ (b || a)
    by true true = refl
    by true false = refl
    by false true = refl
    by false false = refl

    turned : same key q ≡ same q key
    turned = same_tests (same key q) (same q key)
        (λ e. subst (λ (p : Path). same p key ≡ true) (same_is key q e) (same_itself key))
        (λ e. subst (λ (p : Path). same p q ≡ true) (same_is q key e) (same_itself q))

-- ---- numbers of a range

in_range : (n i : ℕ) → i < n → Contains (range_with_len 0 n) i
in_range n i h = (
  i,
  (let a = length-range_with_len 0 n in omega (arith, a, h)),
  (let at = get_or-range_with_len 0 n i i h in omega (arith, at)),
)

of_range : (n i : ℕ) → Contains (range_with_len 0 n) i → i < n
of_range n i c =
    let inside : c.0 < n = (let a = length-range_with_len 0 n in let l = c.1 in omega (arith, a, l)) in
    let at = get_or-range_with_len 0 n c.0 i inside in
    let is = c.2 in
    omega (arith, at, is, inside)

-- ---- what was found

module _ (keep : Keep) (g : Graph) (l : LinksValue) (are : AreNumbers g (all_entries l) (name_at l.names))
    (named : List Path) (r : Reaching) (found : IsFound keep g l named r) where
  abbrev test : Path → Bool
  test = reaches_any keep g named

  abbrev numbers : List ℕ
  numbers = filter (is_marked r) (range_with_len 0 (length l.names))

  valid_if : (p : Path) → IsTrue (test p) → IsTrue (is_valid g p)
  valid_if p t = let some = some_of_any (reaches keep g p) named t in ((decided keep g p some.0).0 some.2).valid

  to_listed : (p : Path) → IsTrue (holds (map (name_at l.names) numbers) p)
      → IsTrue (holds (filter test (finite.keys g)) p)
  to_listed p e =
      let some = some_of_any (same p) (map (name_at l.names) numbers) e in
      let from = from_mapped (name_at l.names) numbers some.0 some.1 in
      let marked = from_filtered (is_marked r) (range_with_len 0 (length l.names)) from.0 from.1 in
      let is : name_at l.names from.0 ≡ p = from.2 ∙ sym (same_is p some.0 some.2) in
      let passes : IsTrue (test p) =
      ap test (sym is) ∙ sym (found from.0 (of_range (length l.names) from.0 marked.0)) ∙ marked.1 in
      let key = some_of_any (same p) (finite.keys g) (holds_valid g p (valid_if p passes)) in
      any_from (same p) (filter test (finite.keys g)) p
      (in_filtered test (finite.keys g) p (subst (Contains (finite.keys g)) (sym (same_is p key.0 key.2)) key.1) passes)
      (same_itself p)

  to_numbered : (p : Path) → IsTrue (holds (filter test (finite.keys g)) p)
      → IsTrue (holds (map (name_at l.names) numbers) p)
  to_numbered p e =
      let some = some_of_any (same p) (filter test (finite.keys g)) e in
      let passes : IsTrue (test p) =
      ap test (same_is p some.0 some.2) ∙ (from_filtered test (finite.keys g) some.0 some.1).1 in
      let at = are.all p (valid_if p passes) in
      let inside : at.0 < length l.names = (let n = count l in let h = at.1 in omega (arith, n, h)) in
      any_from (same p) (map (name_at l.names) numbers) p
      (subst (Contains (map (name_at l.names) numbers)) at.2
      (in_mapped (name_at l.names) numbers at.0
      (in_filtered (is_marked r) (range_with_len 0 (length l.names)) at.0 (in_range (length l.names) at.0 inside)
      (found at.0 inside ∙ ap test at.2 ∙ passes))))
      (same_itself p)

  pub paths_found : (paths : List Path) → IsStrictlySortedBy bytes_cmp paths
      → ((p : Path) → holds paths p ≡ holds (map (name_at l.names) numbers) p) → paths ≡ filter test (finite.keys g)
  paths_found paths rise those =
      same_ordered paths (filter test (finite.keys g)) rise
      (IsStrictlySortedBy-filter bytes_cmp test (finite.keys g) (keys_sorted bytes_cmp g))
      (λ p. those p ∙ same_tests (holds (map (name_at l.names) numbers) p) (holds (filter test (finite.keys g)) p)
      (to_listed p) (to_numbered p))

-- ---- the paths of an outline's graph

pub graph_keys : (o : OutlineValue) → finite.keys (graph_in o) ≡ finite.keys o.objects
graph_keys o =
    same_ordered (finite.keys (graph_in o)) (finite.keys o.objects) (keys_sorted bytes_cmp (graph_in o))
    (keys_sorted bytes_cmp o.objects)
    (λ p. sym (finite.contains_key-keys (graph_in o) p)
    ∙ has-reported bytes_total bytes_antisymmetric (λ _ x. links_in x) o.objects p
    ∙ finite.contains_key-keys o.objects p)
