-- The marking walk at the values of the code.
use Rattle.std.proofs.Common.{◌≡◌, ℕ, ◌^◌, ◌+◌, ◌<◌, ◌≤◌, List, [], ◌∷◌, false, length, replicate, sym, ap, ◌∙◌, subst}
use Rattle.std.proofs.Common.{arith}
use Rattle.std.specs.Prelude.{count_by, nat_le, All}
use Rattle.std.specs.List.{slice_index}
use Rattle.live.specs.Graph.{Keep}
use Rattle.live.specs.Places.{Entries, AllInside, edges_at}
use Rattle.live.specs.Marks.{Frontier, IsMarking, IsDequeued, NoneWaits, reached, all_reached, reported}
use Rattle.live.proofs.OneRoot.{AreMarked, Grows, one, grows, none_waits, consumed_counts, consumed_length}
use Rattle.live.proofs.OneRoot.{consumed_still, waiting_count}
use Rattle.live.proofs.Walks.{IsWalk, are_marked, edge_inside, start, begin}
use Rattle.live.proofs.Visited.{step_taken, finish}

module _ (keep : Keep) (rows : List Entries) (targets : List ℕ) (inside : AllInside rows)
    (aims : All (λ t. t < length rows) targets) where
  pub start_at : (f : Frontier) (s n m : ℕ) → f.first ≡ replicate n m → n ≡ length rows → m ≡ length targets
      → f.waiting ≡ replicate n false → s ≡ 0 → IsWalk keep rows targets 0 f s × NoneWaits f.waiting
  start_at f s n m firsts en em empty none =
      let first : f.first ≡ replicate (length rows) (length targets) =
      firsts ∙ ap (λ k. replicate k m) en ∙ ap (replicate (length rows)) em in
      let quiet : f.waiting ≡ replicate (length rows) false = empty ∙ ap (λ k. replicate k false) en in
      let is : f ≡ record {
        first = replicate (length rows) (length targets);
        waiting = replicate (length rows) false;
      } = λ i. record { first = first i; waiting = quiet i } in (
        subst (λ k. IsWalk keep rows targets 0 f k) (sym none)
            (subst (λ x. IsWalk keep rows targets 0 x 0) (sym is) (start keep rows targets inside aims)),
        subst NoneWaits (sym quiet) (none_waits (length rows)),
      )

  pub begin_at : (root n target : ℕ) (f g : Frontier) (s t : ℕ) → root < n → n ≡ length targets
      → target ≡ slice_index targets root → NoneWaits f.waiting → IsWalk keep rows targets root f s
      → g ≡ reached n root f target → t ≡ reported (s + 1) → IsWalk keep rows targets (root + 1) g t
  begin_at root n target f g s t before en at empty w is stepped =
      let below : root < length targets = omega arith in
      let same : g ≡ reached (length targets) root f (slice_index targets root) =
      is ∙ ap (λ k. reached k root f target) en ∙ ap (reached (length targets) root f) at in
      let within : slice_index targets root < length f.first =
      (let a = aims root 0 below in let p = w.places in omega arith) in
      let grown =
      one (length targets) root below f (slice_index targets root)
      (are_marked keep rows targets inside aims root f s (omega arith) w) within in
      begin keep rows targets inside aims root f g s t below empty w
      (subst (λ x. Grows (length targets) root f x (slice_index targets root ∷ [])) (sym same) grown)
      (omega (arith, stepped))

  module _ (root n place : ℕ) (f h g : Frontier) (s : ℕ) (before : root < n) (en : n ≡ length targets)
      (w : IsWalk keep rows targets (root + 1) f s)
      (firsts : h.first ≡ f.first) (works : IsDequeued f.waiting h.waiting place)
      (is : g ≡ all_reached n root h (edges_at keep rows place)) where
    marked : AreMarked (length targets) h
    marked = record {
      count = consumed_length f.waiting h.waiting place works ∙ w.count ∙ sym w.places ∙ sym (ap length firsts);
      marked =
          λ i c. (let e = (w.waits i (consumed_still f.waiting h.waiting place works i c)).1 in
          let d = ap (λ xs. slice_index xs i) firsts in omega arith);
    }

    grown : Grows (length targets) root h g (edges_at keep rows place)
    grown =
        let same : g ≡ all_reached (length targets) root h (edges_at keep rows place) =
        is ∙ ap (λ k. all_reached k root h (edges_at keep rows place)) en in
        subst (λ x. Grows (length targets) root h x (edges_at keep rows place)) (sym same)
        (grows (length targets) root (omega arith) h (edges_at keep rows place) marked
        (λ j c. (let b = edge_inside keep rows inside place j c in let l = ap length firsts in let p = w.places in
        omega arith)))

    pub consumed_at : (t : ℕ) → reported t ≡ reported (s + (1 + length (edges_at keep rows place)))
        → IsWalk keep rows targets (root + 1) g t
    consumed_at t stepped =
        step_taken keep rows targets inside aims root place f h g s t (omega arith) w firsts works grown stepped

    pub smaller : count_by (λ m. nat_le n m) g.first + waiting_count g.waiting
        < count_by (λ m. nat_le n m) f.first + waiting_count f.waiting
    smaller =
        let a = grown.waiting in
        let b = ap (λ k. count_by (λ m. nat_le k m) g.first) en in
        let c = ap (λ k. count_by (λ m. nat_le k m) f.first) en in
        let d = ap (λ xs. count_by (λ m. nat_le (length targets) m) xs) firsts in
        let n = consumed_counts f.waiting h.waiting place works in omega (arith, a, b, c, d, n)

  pub placed : (root place : ℕ) (f h : Frontier) (s : ℕ) → IsWalk keep rows targets (root + 1) f s
      → IsDequeued f.waiting h.waiting place → place < length rows
  placed root place f h s w works = (w.waits place works.waited).0

  pub finish_at : (begun n : ℕ) (f : Frontier) (s : ℕ) (first : List ℕ) (t : ℕ) → n ≤ begun → begun ≤ n
      → n ≡ length targets → NoneWaits f.waiting → IsWalk keep rows targets begun f s
      → first ≡ f.first → t ≡ s → t < 2 ^ 64 → (k : ℕ) → k < 2 ^ 64 → k ≡ length rows
      → IsMarking keep rows targets (record { first = first; none = n; steps = t })
  finish_at begun n f s first t a b en empty w firsts is fits k small few =
      let all : begun ≡ length targets = omega arith in
      let last =
      finish keep rows targets inside aims f t n empty
      (subst (λ k. IsWalk keep rows targets (length targets) f k) (sym is)
      (subst (λ k. IsWalk keep rows targets k f s) all w)) en fits (omega (arith, small, few)) in
      subst (λ xs. IsMarking keep rows targets (record { first = xs; none = n; steps = t })) (sym firsts) last

  -- the same marks, where nothing waits
  pub ended : (begun : ℕ) (f h : Frontier) (s : ℕ) → IsWalk keep rows targets begun f s → h.first ≡ f.first
      → h.waiting ≡ f.waiting → NoneWaits h.waiting → IsWalk keep rows targets begun h s × NoneWaits h.waiting
  ended begun f h s w firsts same none =
      let is : f ≡ h = λ i. record { first = sym firsts i; waiting = sym same i } in
      (subst (λ x. IsWalk keep rows targets begun x s) is w, none)
