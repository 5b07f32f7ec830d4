-- How many references of others left there are to a place, and whether another path left refers to its path.
use Rattle.std.proofs.Common.{◌≡◌, ℕ, zero, suc, ◌<◌, ◌==◌, Bool, true, cond, List, [], ◌∷◌, ◌++◌, length, map, refl}
use Rattle.std.proofs.Common.{sym, ap, ◌∙◌, subst, inl, inr, arith, IsTrue}
use Rattle.std.specs.Prelude.{Contains, count_by, not, nat_lt, if◌then◌else◌}
use Rattle.std.proofs.lemmas.Bool.{cases_eq, cases_Bool, false≢true, ltb-true, lt-ltb, le-ltb, and_parts, and_from}
use Rattle.std.proofs.lemmas.Bool.{false_from_ne_true, eq-eqb, ne_eqb}
use Rattle.std.proofs.lemmas.List.{length-map, append-nil}
use Rattle.std.proofs.lemmas.List.Sums.{sum_by-cons}
use Rattle.live.specs.Graph.{references_only, same, is_edge}
use Rattle.live.specs.Places.{edges_at, entries_at}
use Rattle.live.specs.Limited.{refers, is_referred_to}
use Rattle.live.specs.Numbering.{Row, Rise, graph_of, numbered, path_at, paths_of}
use Rattle.live.specs.Remainder.{is_in, times_in, times, times_left, referred, places_left}
use Rattle.live.proofs.Edges.{edge_decided}
use Rattle.live.proofs.Members.{cases, no_member, at_head, behind}
use Rattle.live.proofs.Numberings.{one_place, to_edge, from_edge}
use Rattle.live.proofs.Order.{same_bools}
use Rattle.live.proofs.Reach.{same_is, same_itself}
use Rattle.live.proofs.Ranges.{any_false, any_true, one_at_most, some_positive}

-- ---- an element is counted where it is one

pub counted_in : (t : ℕ) (xs : List ℕ) → 0 < count_by (λ x. x == t) xs → Contains xs t
counted_in t [] h = absurd (omega arith)
counted_in t (x ∷ xs) h = elim (cases_eq x t) as (λ _. Contains (x ∷ xs) t) [
  | inl is ↦ subst (Contains (x ∷ xs)) is (at_head x xs)
  | inr other ↦ behind x t xs (counted_in t xs (
      let s = sum_by-cons (λ y. cond (y == t) 1 0) x xs in
      let e : ◌≡◌ {A = ℕ} (cond (x == t) 1 0) 0 = ap (λ b. cond b 1 0) (ne_eqb x t other) in
      omega (arith, h, s, e)))
]

pub in_counted : (t : ℕ) (xs : List ℕ) → Contains xs t → 0 < count_by (λ x. x == t) xs
in_counted t [] c = absurd (no_member t c)
in_counted t (x ∷ xs) c = elim (cases x t xs c) as (λ _. 0 < count_by (λ y. y == t) (x ∷ xs)) [
  | inl is ↦ (
      let s = sum_by-cons (λ y. cond (y == t) 1 0) x xs in
      let e : ◌≡◌ {A = ℕ} (cond (x == t) 1 0) 1 = ap (λ b. cond b 1 0) (eq-eqb x t is) in
      omega (arith, s, e))
  | inr later ↦ (
      let s = sum_by-cons (λ y. cond (y == t) 1 0) x xs in
      let r = in_counted t xs later in
      omega (arith, s, r))
]

pub times_other : (q t : ℕ) (xs : List ℕ) → (q ≡ t → ⊥) → times_in q xs t ≡ count_by (λ x. x == t) xs
times_other q t xs other = ap (λ (b : Bool). if b then 0 else count_by (λ x. x == t) xs) (ne_eqb q t other)

pub times_self : (q t : ℕ) (xs : List ℕ) → q ≡ t → times_in q xs t ≡ 0
times_self q t xs same = ap (λ (b : Bool). if b then 0 else count_by (λ x. x == t) xs) (eq-eqb q t same)

-- ---- the paths that refer

module _ (rows : List Row) (rise : Rise (paths_of rows)) where
  count : length (paths_of rows) ≡ length rows
  count = length-map rows (λ (x : Row). x.0)

  -- two places have one path only where they are one
  pub same_at : (q p : ℕ) → q < length rows → p < length rows → IsTrue (same (path_at rows q) (path_at rows p)) → q ≡ p
  same_at q p hq hp e =
      one_place (paths_of rows) rise q p (omega (arith, count, hq)) (omega (arith, count, hp))
      (same_is (path_at rows q) (path_at rows p) e)

  pub at_same : (q p : ℕ) → q ≡ p → IsTrue (same (path_at rows q) (path_at rows p))
  at_same q p e = sym (ap (λ j. same (path_at rows q) (path_at rows j)) e) ∙ same_itself (path_at rows q)

  alone : (q : ℕ) → edges_at references_only (numbered rows) q ≡ (entries_at (numbered rows) q).references
  alone q =
      append-nil ((entries_at (numbered rows) q).references ++ [])
      ∙ append-nil (entries_at (numbered rows) q).references

  pub refers_is : (q p : ℕ) → q < length rows → p < length rows
      → refers (graph_of rows) (path_at rows q) (path_at rows p) ≡ nat_lt 0 (times (numbered rows) q p)
  refers_is q p hq hp =
      same_bools (refers (graph_of rows) (path_at rows q) (path_at rows p)) (nat_lt 0 (times (numbered rows) q p))
      present here
    where
      present : IsTrue (refers (graph_of rows) (path_at rows q) (path_at rows p))
          → IsTrue (nat_lt 0 (times (numbered rows) q p))
      present h =
          let parts =
          and_parts (not (same (path_at rows q) (path_at rows p)))
          (is_edge references_only (graph_of rows) (path_at rows q) (path_at rows p)) h in
          let other : q ≡ p → ⊥ = λ e. false≢true (sym (ap not (at_same q p e)) ∙ parts.0) in
          let edge =
          from_edge rows rise references_only q p hq hp
          ((edge_decided references_only (graph_of rows) (path_at rows q) (path_at rows p)).0 parts.1) in
          let some =
          in_counted p (entries_at (numbered rows) q).references
          (subst (λ (xs : List ℕ). Contains xs p) (alone q) edge) in
          let t = times_other q p (entries_at (numbered rows) q).references other in
          lt-ltb 0 (times (numbered rows) q p) (omega (arith, some, t))

      here : IsTrue (nat_lt 0 (times (numbered rows) q p))
          → IsTrue (refers (graph_of rows) (path_at rows q) (path_at rows p))
      here h =
          let positive = ltb-true 0 (times (numbered rows) q p) h in
          let other : q ≡ p → ⊥ =
          λ e. (let z = times_self q p (entries_at (numbered rows) q).references e in omega (arith, positive, z)) in
          let t = times_other q p (entries_at (numbered rows) q).references other in
          let listed = counted_in p (entries_at (numbered rows) q).references (omega (arith, positive, t)) in
          let edge =
          to_edge rows rise references_only q p hq
          (subst (λ (xs : List ℕ). Contains xs p) (sym (alone q)) listed) in
          and_from (not (same (path_at rows q) (path_at rows p)))
          (is_edge references_only (graph_of rows) (path_at rows q) (path_at rows p))
          (ap not (false_from_ne_true (same (path_at rows q) (path_at rows p)) (λ e. other (same_at q p hq hp e))))
          ((edge_decided references_only (graph_of rows) (path_at rows q) (path_at rows p)).1 edge.1)

  left_times : (left : List Bool) (p q : ℕ) → is_in left q ≡ true
      → times_left (numbered rows) left p q ≡ times (numbered rows) q p
  left_times left p q l = ap (λ (b : Bool). if b then times (numbered rows) q p else 0) l

  pub referred_is : (left : List Bool) → length left ≡ length rows → (p : ℕ) → p < length rows
      → is_referred_to (graph_of rows) (map (path_at rows) (places_left left)) (path_at rows p)
      ≡ nat_lt 0 (referred (numbered rows) left p)
  referred_is left n p h = by (referred (numbered rows) left p) refl
    where
      by : (k : ℕ) → referred (numbered rows) left p ≡ k
          → is_referred_to (graph_of rows) (map (path_at rows) (places_left left)) (path_at rows p) ≡ nat_lt 0 k
      by zero e =
          any_false (path_at rows) (is_in left) (λ q. refers (graph_of rows) q (path_at rows p)) 0 (length left)
          (λ j b l. (
          let m = one_at_most (times_left (numbered rows) left p) (length left) j (omega arith) in
          let t = left_times left p j l in
          refers_is j p (omega (arith, n, b)) h ∙ le-ltb 0 (times (numbered rows) j p) (omega (arith, m, e, t))))
      by (suc k) e =
          let s = some_positive (times_left (numbered rows) left p) (length left) (omega (arith, e)) in
          elim (cases_Bool (is_in left s.0)) as (λ _. is_referred_to (graph_of rows)
          (map (path_at rows) (places_left left)) (path_at rows p) ≡ nat_lt 0 (suc k)) [
            | inl l ↦ (let t = left_times left p s.0 l in
                any_true (path_at rows) (is_in left) (λ q. refers (graph_of rows) q (path_at rows p)) 0 (length left)
                s.0 (omega arith) (let b = s.1 in omega arith) l
                (refers_is s.0 p (let b = s.1 in omega (arith, n)) h
                ∙ lt-ltb 0 (times (numbered rows) s.0 p) (let b = s.2 in omega (arith, t)))
                ∙ sym (lt-ltb 0 (suc k) (omega arith)))
            | inr l ↦ (let t : times_left (numbered rows) left p s.0 ≡ 0 =
                ap (λ (b : Bool). if b then times (numbered rows) s.0 p else 0) l in
                absurd (let b = s.2 in omega (arith, t)))
          ]
