-- The marking walk: an object is taken, and what is true where nothing waits any more.
use Rattle.std.proofs.Common.{◌≡◌, ℕ, ◌^◌, ◌+◌, ◌<◌, ◌≤◌, List, [], ◌∷◌, length, map, sym, ap, ◌∙◌, subst, inl, inr}
use Rattle.std.proofs.Common.{◌⊎◌, arith}
use Rattle.std.specs.Prelude.{Contains, All}
use Rattle.std.specs.List.{slice_index}
use Rattle.std.proofs.lemmas.Bool.{cases_eq}
use Rattle.std.proofs.lemmas.List.{length-map, get_or-map}
use Rattle.live.specs.Graph.{Keep}
use Rattle.live.specs.Places.{Entries, AllInside, Walks, Reaches, edges_at, no_entries}
use Rattle.live.specs.Marks.{Frontier, IsMarking, IsDequeued, NoneWaits, Waits, cost, marked_cost, reported}
use Rattle.live.proofs.OneRoot.{Grows, mark_at, nothing_costs, consumed_costs, consumed_or_waits, consumed_still}
use Rattle.live.proofs.OneRoot.{waiting_cost}
use Rattle.live.proofs.Walks.{IsWalk, edge_inside, further, less}

module _ (keep : Keep) (rows : List Entries) (targets : List ℕ) (inside : AllInside rows)
    (aims : All (λ t. t < length rows) targets) where
  -- an object that waited is taken
  pub step_taken : (root place : ℕ) (f h g : Frontier) (s t : ℕ) → root < length targets
      → IsWalk keep rows targets (root + 1) f s → h.first ≡ f.first → IsDequeued f.waiting h.waiting place
      → Grows (length targets) root h g (edges_at keep rows place)
      → reported t ≡ reported (s + (1 + length (edges_at keep rows place)))
      → IsWalk keep rows targets (root + 1) g t
  step_taken root place f h g s t below w firsts works grows stepped = record {
    places = grows.places ∙ ap length firsts ∙ w.places;
    count = grows.fits.count ∙ grows.places ∙ ap length firsts ∙ w.places;
    marks = λ i b m. elim (grows.either i) as (λ _. mark_at g i < root + 1) [
      | inl same ↦ (let e = was i in let k = w.marks i b (omega arith) in omega arith)
      | inr new ↦ (let e = new.is in omega arith)
    ];
    reaches = λ i b m. elim (grows.either i) as (λ _. Reaches keep rows (slice_index targets (mark_at g i)) i) [
      | inl same ↦ subst (λ k. Reaches keep rows (slice_index targets k) i) (sym (same ∙ was i))
          (w.reaches i b (let e = was i in omega arith))
      | inr new ↦ subst (λ k. Reaches keep rows (slice_index targets k) i) (sym new.is)
          (further keep rows (slice_index targets root) place i from_root new.among)
    ];
    aimed =
        λ j b. (let k = w.aimed j b in
        let l = less keep rows targets inside aims root below h g _ grows (slice_index targets j) in
        let e = was (slice_index targets j) in omega arith);
    closed = λ i j b c. elim (cases_eq i place) as (λ _. (mark_at g j ≤ mark_at g i) ⊎ Waits g.waiting i) [
      | inl same ↦ inl (let l = at_end j (subst (λ k. Contains (edges_at keep rows k) j) same c) in
          let e = subst (λ k. mark_at g k ≡ root) (sym same) at_place in omega arith)
      | inr other ↦ elim (w.closed i j b c) as (λ _. (mark_at g j ≤ mark_at g i) ⊎ Waits g.waiting i) [
        | inl old ↦ elim (grows.either i) as (λ _. (mark_at g j ≤ mark_at g i) ⊎ Waits g.waiting i) [
          | inl same ↦ inl (let l = less keep rows targets inside aims root below h g _ grows j in let d = was j in
              let e = was i in omega arith)
          | inr new ↦ inr new.waits
        ]
        | inr waits ↦ elim (consumed_or_waits f.waiting h.waiting place works i
            waits) as (λ _. (mark_at g j ≤ mark_at g i) ⊎ Waits g.waiting i) [
              | inl is ↦ absurd (other is)
              | inr still ↦ inr (grows.old i still)
            ]
      ]
    ];
    waits = λ i c. elim (grows.new i c) as (λ _. (i < length rows) × (mark_at g i + 1 ≡ root + 1)) [
      | inl still ↦ waiting i (w.waits i (consumed_still f.waiting h.waiting place works i still))
      | inr new ↦ (edge_inside keep rows inside place i new.among, ap (λ k. k + 1) new.is)
    ];
    paid = (w.paid.0 + (1 + length (edges_at keep rows place)), (let k = w.paid.1 in omega arith), spends);
  }
    where
      was : (i : ℕ) → mark_at h i ≡ mark_at f i
      was i = ap (λ xs. slice_index xs i) firsts

      at_work : (place < length rows) × (mark_at f place + 1 ≡ root + 1)
      at_work = w.waits place works.waited

      its_mark : mark_at f place ≡ root
      its_mark = omega (arith, at_work.1)

      from_root : Reaches keep rows (slice_index targets root) place
      from_root =
          subst (λ k. Reaches keep rows (slice_index targets k) place) its_mark
          (w.reaches place at_work.0 (omega (arith, its_mark)))

      at_place : mark_at g place ≡ root
      at_place =
          elim (grows.either place) as (λ _. mark_at g place ≡ root) [
            | inl same ↦ same ∙ was place ∙ its_mark
            | inr new ↦ new.is
          ]

      at_end : (j : ℕ) → Contains (edges_at keep rows place) j → mark_at g j ≤ root
      at_end j c = elim (grows.either j) as (λ _. mark_at g j ≤ root) [
        | inl same ↦ (let m = grows.marked j c in let e = was j in
            let k = w.marks j (edge_inside keep rows inside place j c) (omega arith) in omega arith)
        | inr new ↦ (let e = new.is in omega arith)
      ]

      waiting : (i : ℕ) → (i < length rows) × (mark_at f i + 1 ≡ root + 1)
          → (i < length rows) × (mark_at g i + 1 ≡ root + 1)
      waiting i b = (
        b.0,
        elim (grows.either i) as (λ _. mark_at g i + 1
            ≡ root + 1) [
              | inl same ↦ (let e = was i in let k = b.1 in omega arith)
              | inr new ↦ ap (λ k. k + 1) new.is
            ],
      )

      spends : w.paid.0 + (1 + length (edges_at keep rows place)) + waiting_cost (map (cost keep) rows) g.waiting
          ≡ root + 1 + marked_cost (length targets) (map (cost keep) rows) g.first
      spends =
          let k = w.paid.2 in
          let l =
          grows.spent (map (cost keep) rows) (length-map rows (cost keep) ∙ sym (ap length firsts ∙ w.places)) in
          let m =
          consumed_costs f.waiting h.waiting place works (map (cost keep) rows)
          (length-map rows (cost keep) ∙ sym w.count) in
          let n = get_or-map (cost keep) rows place no_entries 0 at_work.0 in
          let o = ap (marked_cost (length targets) (map (cost keep) rows)) firsts in
          omega (arith, k, l, m, n, o)

  -- where nothing waits any more, marks fall along edges
  falls : (f : Frontier) (s : ℕ) → NoneWaits f.waiting → IsWalk keep rows targets (length targets) f s
      → (a z : ℕ) (bs : List ℕ) → a < length rows → Walks keep rows a bs z → mark_at f z ≤ mark_at f a
  falls f s empty w a z [] h walks = (let e = ap (mark_at f) walks in omega arith)
  falls f s empty w a z (b ∷ bs) h walks = elim (w.closed a b h walks.0) as (λ _. mark_at f z ≤ mark_at f a) [
    | inl le ↦ (let rest = falls f s empty w b z bs (edge_inside keep rows inside a b walks.0) walks.1 in omega arith)
    | inr waits ↦ absurd (empty a waits)
  ]

  -- after all roots
  pub finish : (f : Frontier) (s n : ℕ) → NoneWaits f.waiting → IsWalk keep rows targets (length targets) f s
      → n ≡ length targets → s < 2 ^ 64 → length rows < 2 ^ 64
      → IsMarking keep rows targets (record { first = f.first; none = n; steps = s })
  finish f s n empty w is fits few = record {
    few = few;
    places = w.places;
    roots = is;
    reaches = λ i h m. w.reaches i h (omega arith);
    least =
        λ i k h b r. (let l = falls f s empty w (slice_index targets k) i r.steps (aims k 0 b) r.walks in
        let t = w.aimed k b in omega arith);
    steps = spent;
  }
    where
      spent : s ≡ reported (length targets + marked_cost n (map (cost keep) rows) f.first)
      spent =
          let t = w.paid.1 in
          let u = w.paid.2 in
          let v = nothing_costs (map (cost keep) rows) f.waiting empty in
          let m = ap (λ k. marked_cost k (map (cost keep) rows) f.first) is in
          omega (arith, t, u, v, m)
