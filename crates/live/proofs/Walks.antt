-- The marking walk: what is true of the marks and of the waiting on the way, and how it begins.
use Rattle.std.proofs.Common.{◌≡◌, ℕ, zero, suc, Bool, true, false, ◌+◌, ◌<◌, ◌≤◌, List, [], ◌∷◌, ◌++◌, length}
use Rattle.std.proofs.Common.{replicate, map, refl, sym, ap, ◌∙◌, subst, inl, inr, ◌⊎◌, arith}
use Rattle.std.specs.Prelude.{Contains, nat_lt, All, if◌then◌else◌}
use Rattle.std.specs.List.{slice_index}
use Rattle.std.proofs.lemmas.Bool.{cases_lt, le-ltb}
use Rattle.std.proofs.lemmas.List.{length-map, length-replicate, get_or-replicate}
use Rattle.std.proofs.lemmas.List.Elements.{Contains-append_left, Contains-append_right, Contains-append_cases}
use Rattle.live.specs.Graph.{Keep}
use Rattle.live.specs.Places.{Entries, AllInside, Walks, Reaches, counting, edges_at, entries_at, held}
use Rattle.live.specs.Marks.{Frontier, NoneWaits, Waits, cost, marked_cost, reported}
use Rattle.live.proofs.OneRoot.{AreMarked, Grows, mark_at, none_waits, nothing_costs, waiting_cost}
use Rattle.live.proofs.Members.{no_member, at_head, cases}

-- the first roots have been begun, and steps have been taken
pub record IsWalk (keep : Keep) (rows : List Entries) (targets : List ℕ) (begun : ℕ) (f : Frontier) (steps : ℕ) : Type
    0 where
  pub places : length f.first ≡ length rows
  pub count : length f.waiting ≡ length rows
  -- a mark is a root that was begun, and that reaches the place
  pub marks : (i : ℕ) → i < length rows → mark_at f i < length targets → mark_at f i < begun
  pub reaches : (i : ℕ) → i < length rows → mark_at f i < length targets
      → Reaches keep rows (slice_index targets (mark_at f i)) i
  -- the target of a root that was begun is marked by it or by an earlier one
  pub aimed : (j : ℕ) → j < begun → mark_at f (slice_index targets j) ≤ j
  -- so is the end of each edge, unless the object still waits
  pub closed : (i j : ℕ) → i < length rows → Contains (edges_at keep rows i) j
      → (mark_at f j ≤ mark_at f i) ⊎ Waits f.waiting i
  -- what waits was marked by the latest root
  pub waits : (i : ℕ) → Waits f.waiting i → (i < length rows) × (mark_at f i + 1 ≡ begun)
  -- a step for each root, and the costs of the objects that are marked and don't wait
  pub paid : (n : ℕ) × (reported steps ≡ reported n)
      × (n + waiting_cost (map (cost keep) rows) f.waiting
      ≡ begun + marked_cost (length targets) (map (cost keep) rows) f.first)

-- what counts is held
pub held_if_counting : (keep : Keep) (e : Entries) (j : ℕ) → Contains (counting keep e) j → Contains (held e) j
held_if_counting keep e j c =
    elim (Contains-append_cases (e.references ++ (if keep.outputs then e.outputs else []))
    (if keep.derivations then e.deriver else []) j c) as (λ _. Contains (held e) j) [
      | inl front ↦ Contains-append_left (e.references ++ e.outputs) e.deriver j
          (elim (Contains-append_cases e.references (if keep.outputs then e.outputs else []) j front) as (λ _. Contains
          (e.references ++ e.outputs) j) [
            | inl r ↦ Contains-append_left e.references e.outputs j r
            | inr o ↦ Contains-append_right e.references e.outputs j (where_on keep.outputs e.outputs j o)
          ])
      | inr d ↦ Contains-append_right (e.references ++ e.outputs) e.deriver j (where_on keep.derivations e.deriver j d)
    ]
  where
    where_on : (b : Bool) (xs : List ℕ) (j : ℕ) → Contains (if b then xs else []) j → Contains xs j
    where_on true xs j c = c
    where_on false xs j c = absurd (no_member j c)

pub edge_inside : (keep : Keep) (rows : List Entries) → AllInside rows → (i j : ℕ) → Contains (edges_at keep rows i) j
    → j < length rows
edge_inside keep rows inside i j c = inside i j (held_if_counting keep (entries_at rows i) j c)

-- one edge further
pub further : (keep : Keep) (rows : List Entries) (a m z : ℕ) → Reaches keep rows a m
    → Contains (edges_at keep rows m) z → Reaches keep rows a z
further keep rows a m z r c = record { steps = r.steps ++ z ∷ []; walks = on a r.steps r.walks }
  where
    on : (a : ℕ) (bs : List ℕ) → Walks keep rows a bs m → Walks keep rows a (bs ++ z ∷ []) z
    on a [] h = (subst (λ x. Contains (edges_at keep rows x) z) (sym h) c, refl)
    on a (b ∷ bs) h = (h.0, on b bs h.1)

pub marked_none : (none : ℕ) (ws : List ℕ) (n : ℕ) → marked_cost none ws (replicate n none) ≡ 0
marked_none none [] n = refl
marked_none none (w ∷ ws) zero = refl
marked_none none (w ∷ ws) (suc n) =
    let is : ◌≡◌ {A = ℕ} (if nat_lt none none then w else 0) 0 =
    ap (λ (b : Bool). if b then w else 0) (le-ltb none none (omega arith)) in
    let rest = marked_none none ws n in omega (arith, is, rest)

module _ (keep : Keep) (rows : List Entries) (targets : List ℕ) (inside : AllInside rows)
    (aims : All (λ t. t < length rows) targets) where
  pub start : IsWalk keep rows targets 0
      (record { first = replicate (length rows) (length targets); waiting = replicate (length rows) false }) 0
  start = record {
    places = length-replicate (length rows) (length targets);
    count = length-replicate (length rows) false;
    marks = λ i h m. (let e = get_or-replicate (length rows) i (length targets) 0 h in absurd (omega arith));
    reaches = λ i h m. (let e = get_or-replicate (length rows) i (length targets) 0 h in absurd (omega arith));
    aimed = λ j h. absurd (omega arith);
    closed = λ i j h c. inl (
        let e = get_or-replicate (length rows) i (length targets) 0 h in
        let d = get_or-replicate (length rows) j (length targets) 0 (edge_inside keep rows inside i j c) in
        omega arith);
    waits = λ i c. absurd (none_waits (length rows) i c);
    paid = (
      0,
      refl,
      (let e = marked_none (length targets) (map (cost keep) rows) (length rows) in
          let n = nothing_costs (map (cost keep) rows) (replicate (length rows) false) (none_waits (length rows)) in
          omega (arith, e, n)),
    );
  }

  pub less : (root : ℕ) → root < length targets → (f g : Frontier) (js : List ℕ) → Grows (length targets) root f g js
      → (i : ℕ) → mark_at g i ≤ mark_at f i
  less root below f g js grows i =
      elim (grows.either i) as (λ _. mark_at g i ≤ mark_at f i) [
        | inl same ↦ omega arith
        | inr new ↦ (let w = new.was in let e = new.is in omega arith)
      ]

  -- what waits is marked
  pub are_marked : (begun : ℕ) (f : Frontier) (s : ℕ) → begun ≤ length targets → IsWalk keep rows targets begun f s
      → AreMarked (length targets) f
  are_marked begun f s below w =
      record { count = w.count ∙ sym w.places; marked = λ i c. (let e = (w.waits i c).1 in omega arith) }

  -- a root is begun
  pub begin : (root : ℕ) (f g : Frontier) (s t : ℕ) → root < length targets → NoneWaits f.waiting
      → IsWalk keep rows targets root f s
      → Grows (length targets) root f g (slice_index targets root ∷ []) → reported t ≡ reported (s + 1)
      → IsWalk keep rows targets (root + 1) g t
  begin root f g s t below empty w grows stepped = record {
    places = grows.places ∙ w.places;
    count = grows.fits.count ∙ grows.places ∙ w.places;
    marks = λ i h m. elim (grows.either i) as (λ _. mark_at g i < root + 1) [
      | inl same ↦ (let k = w.marks i h (omega arith) in omega arith)
      | inr new ↦ (let e = new.is in omega arith)
    ];
    reaches = λ i h m. elim (grows.either i) as (λ _. Reaches keep rows (slice_index targets (mark_at g i)) i) [
      | inl same ↦ subst (λ k. Reaches keep rows (slice_index targets k) i) (sym same) (w.reaches i h (omega arith))
      | inr new ↦ subst (λ k. Reaches keep rows (slice_index targets k) i) (sym new.is)
          (record { steps = []; walks = alone i new.among })
    ];
    aimed = λ j h. elim (cases_lt j root) as (λ _. mark_at g (slice_index targets j) ≤ j) [
      | inl before ↦ (let k = w.aimed j before in let l = less root below f g _ grows (slice_index targets j) in
          omega arith)
      | inr not ↦ (let same : root ≡ j = omega arith in subst (λ k. mark_at g (slice_index targets k) ≤ k) same here)
    ];
    closed = λ i j h c. elim (w.closed i j h c) as (λ _. (mark_at g j ≤ mark_at g i) ⊎ Waits g.waiting i) [
      | inl old ↦ elim (grows.either i) as (λ _. (mark_at g j ≤ mark_at g i) ⊎ Waits g.waiting i) [
        | inl same ↦ inl (let l = less root below f g _ grows j in omega arith)
        | inr new ↦ inr new.waits
      ]
      | inr waits ↦ inr (grows.old i waits)
    ];
    waits = λ i c. elim (grows.new i c) as (λ _. (i < length rows) × (mark_at g i + 1 ≡ root + 1)) [
      | inl was ↦ absurd (empty i was)
      | inr new ↦ (subst (λ k. k < length rows) (alone i new.among) (aims root 0 below), ap (λ k. k + 1) new.is)
    ];
    paid = (
      w.paid.0 + 1,
      (let k = w.paid.1 in omega arith),
      (let k = w.paid.2 in let l =
          grows.spent (map (cost keep) rows) (length-map rows (cost keep) ∙ sym w.places) in omega arith),
    );
  }
    where
      alone : (i : ℕ) → Contains (slice_index targets root ∷ []) i → slice_index targets root ≡ i
      alone i c =
          elim (cases (slice_index targets root) i [] c) as (λ _. slice_index targets root ≡ i) [
            | inl same ↦ same
            | inr nothing ↦ absurd (no_member i nothing)
          ]

      here : mark_at g (slice_index targets root) ≤ root
      here = elim (grows.either (slice_index targets root)) as (λ _. mark_at g (slice_index targets root) ≤ root) [
        | inl same ↦ (let m = grows.marked (slice_index targets root) (at_head (slice_index targets root) []) in
            let k = w.marks (slice_index targets root) (aims root 0 below) (omega arith) in omega arith)
        | inr new ↦ (let e = new.is in omega arith)
      ]
