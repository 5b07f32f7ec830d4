-- The next group, by places and by paths.
use Rattle.std.proofs.Common.{◌≡◌, ℕ, suc, ◌||◌, ◌<◌, ◌≤◌, ◌&&◌, ◌==◌, Bool, true, false, List, [], ◌∷◌, length, map}
use Rattle.std.proofs.Common.{Some, None, refl, sym, ap, ◌∙◌, arith, IsTrue}
use Rattle.std.specs.Prelude.{All, filter, find, not, nat_lt, sum_by}
use Rattle.std.specs.List.{range_with_len, list_any, slice_index}
use Rattle.std.specs.Option.{option_map, option_or}
use Rattle.std.proofs.lemmas.Bool.{false≢true, and_parts, and_from, false_from_ne_true, le-ltb, ltb-false, eq-eqb}
use Rattle.std.proofs.lemmas.Bool.{eqb-true}
use Rattle.std.proofs.lemmas.List.{length-map}
use Rattle.live.specs.Graph.{Path, references_only, same, holds}
use Rattle.live.specs.Reach.{reaches}
use Rattle.live.specs.Limited.{is_referred_to, next_with_referrers, next_group, without}
use Rattle.live.specs.Places.{Entries}
use Rattle.live.specs.Numbering.{Row, Rise, graph_of, numbered, numbered_links, path_at, paths_of}
use Rattle.live.specs.Remainder.{Remaining, IsRemaining, IsNextUnreferred, IsLeastDead, NoneUnreferred, NoneDead}
use Rattle.live.specs.Remainder.{Represents, is_in, nothing_owed, places_left, referred}
use Rattle.std.proofs.lemmas.List.Sums.{sum_by-cons}
use Rattle.live.proofs.Asked.{same_passing}
use Rattle.live.proofs.Order.{same_bools}
use Rattle.live.proofs.Ranges.{find_at, find_none, filter_at}
use Rattle.live.proofs.References.{referred_is, same_at, at_same}

module _ (es : List Entries) (s : Remaining) (remains : IsRemaining es nothing_owed s) (sizes : List ℕ)
    (rows : List Row) (is_dead : Path → Bool) (size : Path → ℕ)
    (stands : Represents es s.dead sizes rows is_dead size) where
  count : length s.left ≡ length rows
  count = remains.places ∙ ap length stands.rows ∙ length-map rows (λ (r : Row). numbered_links (paths_of rows) r.1)

  -- whether a path is one that is deleted alone
  abbrev goes_singly : Path → Bool
  goes_singly p = is_dead p && not (is_referred_to (graph_of rows) (map (path_at rows) (places_left s.left)) p)

  counted : (t : ℕ) → t < length rows → slice_index s.referrers t ≡ referred (numbered rows) s.left t
  counted t h =
      let c = remains.counted t (let p = remains.places in omega (arith, p, count, h)) in
      let e = ap (λ (xs : List Entries). referred xs s.left t) stands.rows in
      omega (arith, c, e)

  referred_at : (p : ℕ) → p < length rows
      → is_referred_to (graph_of rows) (map (path_at rows) (places_left s.left)) (path_at rows p)
      ≡ nat_lt 0 (slice_index s.referrers p)
  referred_at p h = referred_is rows stands.rise s.left count p h ∙ ap (nat_lt 0) (sym (counted p h))

  -- a dead place left that is deleted alone has no referrer
  is_singleton : (j : ℕ) → j < length rows → IsTrue (goes_singly (path_at rows j))
      → IsTrue (is_in s.dead j) × (slice_index s.referrers j ≡ 0)
  is_singleton j h e =
      let parts =
      and_parts (is_dead (path_at rows j))
      (not (is_referred_to (graph_of rows) (map (path_at rows) (places_left s.left)) (path_at rows j))) e in
      let zero : slice_index s.referrers j ≤ 0 =
      ltb-false 0 (slice_index s.referrers j)
      (sym (referred_at j h) ∙ not_true
      (is_referred_to (graph_of rows) (map (path_at rows) (places_left s.left)) (path_at rows j)) parts.1) in
      (sym (stands.deads j h) ∙ parts.0, omega (arith, zero))
    where
      not_true : (b : Bool) → not b ≡ true → b ≡ false
      not_true false e = refl
      not_true true e = absurd (false≢true e)

  pub unreferred_is : (p : ℕ) → IsNextUnreferred s p
      → next_group (graph_of rows) is_dead (map (path_at rows) (places_left s.left)) ≡ Some (path_at rows p ∷ [])
  unreferred_is p n =
      let below : p < length rows = (let h = n.place in omega (arith, count)) in
      let passes =
      and_from (is_dead (path_at rows p))
      (not (is_referred_to (graph_of rows) (map (path_at rows) (places_left s.left)) (path_at rows p)))
      (stands.deads p below ∙ n.is_dead)
      (ap not (referred_at p below ∙ le-ltb 0 (slice_index s.referrers p) (let z = n.unreferred in omega arith))) in
      let found =
      find_at (path_at rows) (is_in s.left) goes_singly 0 (length s.left) p (omega arith)
      (let h = n.place in omega arith) n.is_left passes
      (λ j h l. false_from_ne_true (goes_singly (path_at rows j))
      (λ e. (let a = is_singleton j (omega (arith, below)) e in n.least j h a.0 l a.1))) in
      ap (λ o. option_or (option_map (λ q. q ∷ []) o)
      (next_with_referrers (graph_of rows) is_dead (map (path_at rows) (places_left s.left)))) found

  none_goes_singly : NoneUnreferred s → find goes_singly (map (path_at rows) (places_left s.left)) ≡ None
  none_goes_singly none = find_none (path_at rows) (is_in s.left) goes_singly 0 (length s.left)
      (λ j h l. false_from_ne_true (goes_singly (path_at rows j))
      (λ e. (let a = is_singleton j (omega (arith, h, count)) e in none j (omega arith) a.0 l a.1)))

  pub with_referrers_is : (p : ℕ) → NoneUnreferred s → IsLeastDead s p
      → next_group (graph_of rows) is_dead (map (path_at rows) (places_left s.left))
      ≡ Some (map (path_at rows) (filter
      (λ i. is_in s.left i && reaches references_only (graph_of rows) (path_at rows i) (path_at rows p))
      (range_with_len 0 (length s.left))))
  with_referrers_is p none n =
      let below : p < length rows = (let h = n.place in omega (arith, count)) in
      let found =
      find_at (path_at rows) (is_in s.left) is_dead 0 (length s.left) p (omega arith)
      (let h = n.place in omega arith) n.is_left (stands.deads p below ∙ n.is_dead)
      (λ j h l. false_from_ne_true (is_dead (path_at rows j))
      (λ e. n.least j h (sym (stands.deads j (omega (arith, below))) ∙ e) l)) in
      ap (λ o. option_or (option_map (λ q. q ∷ []) o)
      (next_with_referrers (graph_of rows) is_dead (map (path_at rows) (places_left s.left))))
      (none_goes_singly none)
      ∙ ap (λ o. option_map (λ q. filter (λ r. reaches references_only (graph_of rows) r q)
      (map (path_at rows) (places_left s.left))) o) found
      ∙ ap Some (filter_at (path_at rows) (is_in s.left)
      (λ r. reaches references_only (graph_of rows) r (path_at rows p)) 0 (length s.left))

  pub no_group_is : NoneUnreferred s → NoneDead s
      → next_group (graph_of rows) is_dead (map (path_at rows) (places_left s.left)) ≡ None
  no_group_is none dead =
      let found = find_none (path_at rows) (is_in s.left) is_dead 0 (length s.left)
      (λ j h l. false_from_ne_true (is_dead (path_at rows j))
      (λ e. dead j (omega arith) (sym (stands.deads j (omega (arith, h, count))) ∙ e) l)) in
      ap (λ o. option_or (option_map (λ q. q ∷ []) o)
      (next_with_referrers (graph_of rows) is_dead (map (path_at rows) (places_left s.left))))
      (none_goes_singly none)
      ∙ ap (λ o. option_map (λ q. filter (λ r. reaches references_only (graph_of rows) r q)
      (map (path_at rows) (places_left s.left))) o) found

-- ---- what a group leaves

module _ (rows : List Row) (rise : Rise (paths_of rows)) where
  same_as : (i j : ℕ) → i < length rows → j < length rows → same (path_at rows i) (path_at rows j) ≡ (j == i)
  same_as i j h k = same_bools (same (path_at rows i) (path_at rows j)) (j == i)
      (λ e. eq-eqb j i (sym (same_at rows rise i j h k e)))
      (λ e. at_same rows rise i j (sym (eqb-true j i e)))

  one_of : (group : List ℕ) → All (λ t. t < length rows) group → (i : ℕ) → i < length rows
      → holds (map (path_at rows) group) (path_at rows i) ≡ list_any (λ j. j == i) group
  one_of [] inside i h = refl
  one_of (j ∷ group) inside i h =
      λ d. same_as i j h (inside 0 0 (omega arith)) d || one_of group (λ k x l. inside (suc k) x (omega arith)) i h d

  -- what is left by places is what is left by paths
  pub left_without : (group : List ℕ) → All (λ t. t < length rows) group → (old new : List Bool)
      → length old ≡ length rows → length new ≡ length rows
      → ((i : ℕ) → i < length rows → is_in new i ≡ (is_in old i && not (list_any (λ j. j == i) group)))
      → map (path_at rows) (places_left new) ≡ without (map (path_at rows) group) (map (path_at rows) (places_left old))
  left_without group inside old new co cn went =
      ap (map (path_at rows)) (
      ap (λ n. filter (is_in new) (range_with_len 0 n)) cn
      ∙ same_passing (is_in new) (λ i. is_in old i && not (holds (map (path_at rows) group) (path_at rows i)))
      (length rows)
      (λ i h. went i h ∙ ap (λ b. is_in old i && not b) (sym (one_of group inside i h)))
      ∙ ap (λ n. filter (λ i. is_in old i && not (holds (map (path_at rows) group) (path_at rows i)))
      (range_with_len 0 n)) (sym co))
      ∙ sym (filter_at (path_at rows) (is_in old) (λ p. not (holds (map (path_at rows) group) p)) 0 (length old))

  pub sizes_of : (sizes : List ℕ) (size : Path → ℕ)
      → ((i : ℕ) → i < length rows → size (path_at rows i) ≡ slice_index sizes i) → (group : List ℕ)
      → All (λ t. t < length rows) group
      → sum_by size (map (path_at rows) group) ≡ sum_by (slice_index sizes) group
  sizes_of sizes size is [] inside = refl
  sizes_of sizes size is (j ∷ group) inside =
      let a = sum_by-cons size (path_at rows j) (map (path_at rows) group) in
      let b = sum_by-cons (slice_index sizes) j group in
      let c = is j (inside 0 0 (omega arith)) in
      let d = sizes_of sizes size is group (λ k x l. inside (suc k) x (omega arith)) in
      omega (arith, a, b, c, d)
