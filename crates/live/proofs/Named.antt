-- What a walk against the edges says of paths, by any numbers that stand for them.
use Rattle.std.proofs.Common.{◌≡◌, ℕ, zero, suc, ◌+◌, ◌<◌, ◌≤◌, Bool, true, false, ◌||◌, cond, List, [], ◌∷◌, ◌++◌}
use Rattle.std.proofs.Common.{length, get_or, map, Option, Some, None, refl, sym, ap, ◌∙◌, subst, inl, inr, ◌⊎◌, arith}
use Rattle.std.proofs.Common.{IsTrue, ◌↔◌}
use Rattle.std.specs.Prelude.{All, filter, find, is_some, nat_lt, option_map, if◌then◌else◌}
use Rattle.std.specs.List.{range_with_len, slice_index, sum_by}
use Rattle.std.proofs.lemmas.Bool.{ltb-true, lt-ltb}
use Rattle.std.proofs.lemmas.List.{append_assoc, get_or-map, get_or_at, length-map, length_push}
use Rattle.std.proofs.lemmas.List.Elements.{All-cons, All-nil, Contains-get_or}
use Rattle.std.proofs.lemmas.List.Sums.{sum_by-cons}
use Rattle.paths.specs.Root.{Root}
use Rattle.live.specs.Graph.{Graph, IsEdge, Keep, Path, deriver, is_edge, is_valid, output, reference, references_only}
use Rattle.live.specs.Live.{first_root, roots_that_reach}
use Rattle.live.specs.Numbering.{IsAimed, Rise, RootsRise, Row, graph_of, no_root, numbered, numbered_links, path_at}
use Rattle.live.specs.Numbering.{paths_of, root_at}
use Rattle.live.specs.Reach as by_path
use Rattle.live.specs.Reach.{refers_to_any}
use Rattle.live.specs.Places as by_place
use Rattle.live.specs.Places.{Entries}
use Rattle.live.specs.Backward.{IsBackward, ReachesAny}
use Rattle.live.specs.Marks.{marked_cost, reported}
use Rattle.live.specs.Reaching.{AreNumbers, AreTargets, AreUsed, IsExactlyReaching, IsReaching, Reaching, cost_to}
use Rattle.live.specs.Reaching.{costs_to, is_marked, reaches_any}
use Rattle.live.proofs.Asked.{all_passing, same_passing}
use Rattle.live.proofs.Edges.{edge_decided}
use Rattle.live.proofs.Members.{any_from, cases, no_member, some_of_any}
use Rattle.live.proofs.Numberings.{at_place, from_edge, one_place, place_if_valid, to_edge}
use Rattle.live.proofs.Order.{in_order_is, same_bools}
use Rattle.live.proofs.Ranges.{at_or_after}
use Rattle.live.proofs.Reach.{decided, edge_valid, end_valid}

-- an edge begins at a valid path
begins_valid : (keep : Keep) (g : Graph) (a b : Path) → IsEdge keep g a b → IsTrue (is_valid g a)
begins_valid keep g a b (reference l e v c) = ap is_some e
begins_valid keep g a b (output l e v k c) = ap is_some e
begins_valid keep g a b (deriver l e v k c) = ap is_some e

module _ (keep : Keep) (g : Graph) (rows : List Entries) (name : ℕ → Path) (are : AreNumbers g rows name) where
  leads : (a z : ℕ) (bs : List ℕ) → a < length rows → by_place.Walks keep rows a bs z
      → by_path.Leads keep g (name a) (map name bs) (name z)
  leads a z [] h w = ap name w
  leads a z (b ∷ bs) h w =
      let e = are.edge keep a b h w.0 in
      ((edge_decided keep g (name a) (name b)).1 e.1, leads b z bs e.0 w.1)

  starts_valid : (a z : ℕ) (bs : List ℕ) → a < length rows → IsTrue (is_valid g (name z))
      → by_place.Walks keep rows a bs z → IsTrue (is_valid g (name a))
  starts_valid a z [] h v w = subst (λ k. IsTrue (is_valid g (name k))) (sym w) v
  starts_valid a z (b ∷ bs) h v w = begins_valid keep g (name a) (name b) (are.edge keep a b h w.0).1

  pub to_path : (a z : ℕ) → a < length rows → IsTrue (is_valid g (name z)) → by_place.Reaches keep rows a z
      → by_path.Reaches keep g (name a) (name z)
  to_path a z h v r =
      record {
        valid = starts_valid a z r.steps h v r.walks;
        steps = map name r.steps;
        leads = leads a z r.steps h r.walks;
      }

  walks : (a z : ℕ) (ps : List Path) → a < length rows → z < length rows → IsTrue (is_valid g (name z))
      → by_path.Leads keep g (name a) ps (name z) → (bs : List ℕ) × by_place.Walks keep rows a bs z
  walks a z [] h k v l = ([], are.one a z h k v l)
  walks a z (p ∷ ps) h k v l =
      let b = are.all p (edge_valid keep g (name a) p l.0) in
      let edge = subst (λ q. IsTrue (is_edge keep g (name a) q)) (sym b.2) l.0 in
      let rest = walks b.0 z ps b.1 k v (subst (λ q. by_path.Leads keep g q ps (name z)) (sym b.2) l.1) in
      (b.0 ∷ rest.0, (are.entry keep a b.0 h b.1 ((edge_decided keep g (name a) (name b.0)).0 edge), rest.1))

  pub to_place : (a z : ℕ) → a < length rows → z < length rows → by_path.Reaches keep g (name a) (name z)
      → by_place.Reaches keep rows a z
  to_place a z h k r = let w =
      walks a z r.steps h k (end_valid keep g (name a) (name z) r) r.leads in record { steps = w.0; walks = w.1 }

  -- a place that is marked reaches a named path, and the other way round
  pub any_way : (named marks : List ℕ) → All (λ t. t < length rows) named → AreUsed g name named
      → IsBackward keep rows named marks → (i : ℕ) → i < length rows
      → nat_lt (slice_index marks i) 1 ≡ reaches_any keep g (map name named) (name i)
  any_way named marks aims used back i h =
      same_bools (nat_lt (slice_index marks i) 1) (reaches_any keep g (map name named) (name i)) present here
    where
      exact : (slice_index marks i < 1) ↔ ReachesAny keep rows named i
      exact = back.exact i h

      present : IsTrue (nat_lt (slice_index marks i) 1) → IsTrue (reaches_any keep g (map name named) (name i))
      present m =
          let r = exact.0 (ltb-true (slice_index marks i) 1 m) in
          any_from (by_path.reaches keep g (name i)) (map name named) (name r.end) (
            r.is_named.0,
            (let l = r.is_named.1 in let n = length-map named name in omega arith),
            get_or-map name named r.is_named.0 r.end (name r.end) r.is_named.1 ∙ ap name r.is_named.2,
          )
          ((decided keep g (name i) (name r.end)).1 (to_path i r.end h (used r.end r.is_named) r.reaches))

      here : IsTrue (reaches_any keep g (map name named) (name i)) → IsTrue (nat_lt (slice_index marks i) 1)
      here t =
          let s = some_of_any (by_path.reaches keep g (name i)) (map name named) t in
          let l : s.1.0 < length named = (let a = s.1.1 in let n = length-map named name in omega arith) in
          let same : name (get_or named s.1.0 0) ≡ s.0 = sym (get_or-map name named s.1.0 0 s.0 l) ∙ s.1.2 in
          let way =
          (decided keep g (name i) (name (get_or named s.1.0 0))).0
          (ap (by_path.reaches keep g (name i)) same ∙ s.2) in
          lt-ltb (slice_index marks i) 1 (exact.1 (record {
            end = get_or named s.1.0 0;
            is_named = Contains-get_or named s.1.0 0 l;
            reaches = to_place i (get_or named s.1.0 0) h (aims s.1.0 0 l) way;
          }))

-- ---- the costs of the marked

cost_step : (cost : ℕ → ℕ) (a : ℕ) (b : Bool) (others : List ℕ) (s : ℕ) → s ≡ sum_by cost others
    → ◌≡◌ {A = ℕ} ((if b then cost a else 0) + s) (sum_by cost (cond b (a ∷ others) others))
cost_step cost a true others s e = (let t = sum_by-cons cost a others in omega (arith, t, e))
cost_step cost a false others s e = omega (arith, e)

costs_from : (cost : ℕ → ℕ) (all pre marks : List ℕ) (a : ℕ) → all ≡ pre ++ marks → length pre ≡ a
    → marked_cost 1 (map cost (range_with_len a (length marks))) marks
    ≡ sum_by cost (filter (λ i. nat_lt (slice_index all i) 1) (range_with_len a (length marks)))
costs_from cost all pre [] a is e = refl
costs_from cost all pre (m ∷ ms) a is e =
    ap (λ k. (if nat_lt k 1 then cost a else 0) + marked_cost 1 (map cost (range_with_len (a + 1) (length ms))) ms)
    (sym here)
    ∙ cost_step cost a (nat_lt (slice_index all a) 1)
    (filter (λ i. nat_lt (slice_index all i) 1) (range_with_len (a + 1) (length ms)))
    (marked_cost 1 (map cost (range_with_len (a + 1) (length ms))) ms)
    (costs_from cost all (pre ++ m ∷ []) ms (a + 1) (is ∙ sym (append_assoc pre (m ∷ []) ms))
    (length_push pre m ∙ ap (λ n. n + 1) e))
  where
    here : slice_index all a ≡ m
    here = ap (λ ys. get_or ys a 0) is ∙ get_or_at pre m ms 0 a e

module _ (keep : Keep) (g : Graph) (rows : List Entries) (name : ℕ → Path) (are : AreNumbers g rows name) where
  pub exactly : (named : List ℕ) (r : Reaching) → All (λ t. t < length rows) named → AreUsed g name named
      → IsReaching keep rows named r → IsExactlyReaching keep g rows name named r
  exactly named r aims used is = record {
    count = is.backward.count;
    marks = way;
    steps =
        is.steps ∙ ap reported (costs
        ∙ ap (sum_by (cost_to keep rows))
        (same_passing (is_marked r) (λ i. reaches_any keep g (map name named) (name i)) (length rows) way));
  }
    where
      way : (i : ℕ) → i < length rows → is_marked r i ≡ reaches_any keep g (map name named) (name i)
      way i h = any_way keep g rows name are named r.marks aims used is.backward i h

      costs : marked_cost 1 (costs_to keep rows) r.marks
          ≡ sum_by (cost_to keep rows) (filter (is_marked r) (range_with_len 0 (length rows)))
      costs =
          subst (λ n. marked_cost 1 (map (cost_to keep rows) (range_with_len 0 n)) r.marks
          ≡ sum_by (cost_to keep rows) (filter (is_marked r) (range_with_len 0 n))) is.backward.count
          (costs_from (cost_to keep rows) r.marks [] r.marks 0 refl refl)

-- ---- the first in a range that passes

step_found : (p : ℕ → Bool) (a k : ℕ) (o : Option ℕ) → (a ≡ k) ⊎ (a < k) → p k ≡ true → (a < k → p a ≡ false)
    → (a < k → o ≡ Some k) → cond (p a) (Some a) o ≡ Some k
step_found p a k o (inl same) at before more = ap (λ b. cond b (Some a) o) (ap p same ∙ at) ∙ ap Some same
step_found p a k o (inr less) at before more = ap (λ b. cond b (Some a) o) (before less) ∙ more less

pub found_from : (p : ℕ → Bool) (a n k : ℕ) → a ≤ k → k < a + n → ((j : ℕ) → j < k → p j ≡ false) → p k ≡ true
    → find p (range_with_len a n) ≡ Some k
found_from p a zero k h l before at = absurd (omega arith)
found_from p a (suc n) k h l before at =
    step_found p a k (find p (range_with_len (a + 1) n)) (at_or_after a k h) at (before a)
    (λ less. found_from p (a + 1) n k (omega arith) (omega arith) before at)

pub none_from : (p : ℕ → Bool) (a n : ℕ) → ((j : ℕ) → j < a + n → p j ≡ false) → find p (range_with_len a n) ≡ None
none_from p a zero never = refl
none_from p a (suc n) never =
    ap (λ b. cond b (Some a) (find p (range_with_len (a + 1) n))) (never a (omega arith))
    ∙ none_from p (a + 1) n (λ j h. never j (omega arith))

-- ---- what is asked

pub one_named : (place n : ℕ) → place < n → All (λ t. t < n) (place ∷ [])
one_named place n h = All-cons (λ t. t < n) place [] h (All-nil (λ t. t < n))

pub only : (g : Graph) (name : ℕ → Path) (place : ℕ) → IsTrue (is_valid g (name place)) → AreUsed g name (place ∷ [])
only g name place v i c = elim (cases place i [] c) as (λ _. IsTrue (is_valid g (name i))) [
  | inl same ↦ subst (λ k. IsTrue (is_valid g (name k))) same v
  | inr none ↦ absurd (no_member i none)
]

or_none : (b : Bool) → (b || false) ≡ b
or_none true = refl
or_none false = refl

module _ (keep : Keep) (g : Graph) (rows : List Entries) (name : ℕ → Path) (place : ℕ) (r : Reaching)
    (is : IsExactlyReaching keep g rows name (place ∷ []) r)
    (given : List Root) (targets : List ℕ) (aimed : AreTargets name given targets)
    (inside : All (λ t. t < length rows) targets) where
  -- what the marks say of a root
  root_marked : (k : ℕ) → k < length targets
      → is_marked r (slice_index targets k) ≡ by_path.reaches keep g (root_at given k).target (name place)
  root_marked k h =
      is.marks (slice_index targets k) (inside k 0 h)
      ∙ or_none (by_path.reaches keep g (name (slice_index targets k)) (name place))
      ∙ ap (λ p. by_path.reaches keep g p (name place)) (aimed.names k (let c = aimed.count in omega arith))

  pub roots_found : (found : List ℕ)
      → found ≡ filter (λ k. is_marked r (slice_index targets k)) (range_with_len 0 (length targets))
      → found ≡ filter (λ k. by_path.reaches keep g (root_at given k).target (name place))
      (range_with_len 0 (length given))
  roots_found found e =
      e ∙ same_passing (λ k. is_marked r (slice_index targets k))
      (λ k. by_path.reaches keep g (root_at given k).target (name place)) (length targets) root_marked
      ∙ ap (λ n. filter (λ k. by_path.reaches keep g (root_at given k).target (name place)) (range_with_len 0 n))
      aimed.count

  pub roots_are : (found : List ℕ)
      → found ≡ filter (λ k. is_marked r (slice_index targets k)) (range_with_len 0 (length targets))
      → map (root_at given) found ≡ roots_that_reach keep g given (name place)
  roots_are found e =
      all_passing (λ (x : Root). by_path.reaches keep g x.target (name place)) no_root given found (roots_found found e)

  -- the first that passes in a range is the first of a list that does
  first_from : {X : Type 0} (q : X → Bool) (d : X) (all pre xs : List X) (a : ℕ) → all ≡ pre ++ xs → length pre ≡ a
      → option_map (λ k. get_or all k d) (find (λ k. q (get_or all k d)) (range_with_len a (length xs))) ≡ find q xs
  first_from q d all pre [] a e l = refl
  first_from {X} q d all pre (x ∷ xs) a e l =
      go (q (get_or all a d)) refl (first_from q d all (pre ++ x ∷ []) xs (a + 1)
      (e ∙ sym (append_assoc pre (x ∷ []) xs)) (length_push pre x ∙ ap (λ n. n + 1) l))
    where
      here : get_or all a d ≡ x
      here = ap (λ ys. get_or ys a d) e ∙ get_or_at pre x xs d a l

      go : (b : Bool) → q (get_or all a d) ≡ b
          → option_map (λ k. get_or all k d) (find (λ k. q (get_or all k d)) (range_with_len (a + 1) (length xs)))
          ≡ find q xs
          → option_map (λ k. get_or all k d)
          (cond b (Some a) (find (λ k. q (get_or all k d)) (range_with_len (a + 1) (length xs))))
          ≡ cond (q x) (Some x) (find q xs)
      go true t rest = ap Some here ∙ sym (ap (λ b. cond b (Some x) (find q xs)) (sym (ap q here) ∙ t))
      go false t rest = rest ∙ sym (ap (λ b. cond b (Some x) (find q xs)) (sym (ap q here) ∙ t))

  same_find : (p q : ℕ → Bool) (a n : ℕ) → ((k : ℕ) → k < a + n → p k ≡ q k)
      → find p (range_with_len a n) ≡ find q (range_with_len a n)
  same_find p q a zero same = refl
  same_find p q a (suc n) same =
      ap (λ b. cond b (Some a) (find p (range_with_len (a + 1) n))) (same a (omega arith))
      ∙ ap (cond (q a) (Some a)) (same_find p q (a + 1) n (λ k l. same k (omega arith)))

  pub first_is : RootsRise given → (found : Option ℕ)
      → found ≡ find (λ k. is_marked r (slice_index targets k)) (range_with_len 0 (length targets))
      → option_map (root_at given) found ≡ first_root keep g given (name place)
  first_is ordered found e =
      ap (option_map (root_at given))
      (e ∙ same_find (λ k. is_marked r (slice_index targets k))
      (λ k. by_path.reaches keep g (root_at given k).target (name place)) 0 (length targets)
      (λ k l. root_marked k (omega arith))
      ∙ ap (λ n. find (λ k. by_path.reaches keep g (root_at given k).target (name place)) (range_with_len 0 n))
      aimed.count)
      ∙ first_from (λ (x : Root). by_path.reaches keep g x.target (name place)) no_root given [] given 0 refl refl
      ∙ sym (ap (find (λ (x : Root). by_path.reaches keep g x.target (name place))) (in_order_is given ordered))

-- the paths that refer to some
pub referrers_found : (g : Graph) (rows : List Entries) (name : ℕ → Path) (named : List ℕ) (r : Reaching)
    → IsExactlyReaching references_only g rows name named r → (found : List ℕ)
    → found ≡ filter (is_marked r) (range_with_len 0 (length r.marks))
    → found ≡ filter (λ i. refers_to_any g (map name named) (name i)) (range_with_len 0 (length rows))
referrers_found g rows name named r is found e =
    e ∙ ap (λ n. filter (is_marked r) (range_with_len 0 n)) is.count
    ∙ same_passing (is_marked r) (λ i. refers_to_any g (map name named) (name i)) (length rows) is.marks

-- ---- the places of rows

numbers : (rows : List Row) → length (numbered rows) ≡ length rows
numbers rows = length-map rows (λ (r : Row). numbered_links (paths_of rows) r.1)

names : (rows : List Row) → length (paths_of rows) ≡ length rows
names rows = length-map rows (λ (r : Row). r.0)

pub places_are_numbers : (rows : List Row) → Rise (paths_of rows)
    → AreNumbers (graph_of rows) (numbered rows) (path_at rows)
places_are_numbers rows rise = record {
  all = λ p v. (let i = place_if_valid rows rise p v in (i.0, (let h = i.1 in omega (arith, numbers rows)), i.2));
  one =
      λ i j h k v e. one_place (paths_of rows) rise i j (omega (arith, names rows, numbers rows, h))
      (omega (arith, names rows, numbers rows, k)) e;
  edge =
      λ keep a b h c. (let e = to_edge rows rise keep a b (omega (arith, numbers rows, h)) c in
      ((let l = e.0 in omega (arith, numbers rows)), e.1));
  entry =
      λ keep a b h k e. from_edge rows rise keep a b (omega (arith, numbers rows, h)) (omega (arith, numbers rows, k))
      e;
}

pub places_are_targets : (rows : List Row) (given : List Root) (targets : List ℕ) → Rise (paths_of rows)
    → IsAimed rows given targets → AreTargets (path_at rows) given targets
places_are_targets rows given targets rise aimed = record {
  count = aimed.count;
  names = λ k h. (at_place (paths_of rows) rise (root_at given k).target (slice_index targets k) (aimed.places k h)).1;
}
