-- The walk over links that are kept turned round: what is true of the marks on the way, and what it costs.
use Rattle.std.proofs.Common.{◌≡◌, ℕ, zero, suc, ◌^◌, ◌+◌, ◌<◌, ◌==◌, false, cond, List, [], ◌∷◌, ◌++◌, length}
use Rattle.std.proofs.Common.{replicate, refl, sym, ap, ◌∙◌, subst, inl, inr, arith}
use Rattle.std.specs.Prelude.{All, Contains, count_by, nat_le, nat_lt, if◌then◌else◌}
use Rattle.std.specs.List.{range_with_len, slice_index_or, sum_by}
use Rattle.std.proofs.lemmas.Bool.{cases_lt, cases_order, eq-eqb, ne_eqb, lt-ltb, le-ltb}
use Rattle.std.proofs.lemmas.List.{get_or_default, get_or_past, length-append}
use Rattle.std.proofs.lemmas.List.FromFn.{get_or-map-range_with_len, length-map-range_with_len}
use Rattle.std.proofs.lemmas.List.Sums.{fold-append, sum_by-cons}
use Rattle.live.specs.Graph.{Keep}
use Rattle.live.specs.Places.{AllInside, Entries, edges_at, entries_at, held, no_entries}
use Rattle.live.specs.Marks.{Frontier, IsDequeued, NoneWaits, all_reached, marked_cost, reached, reported}
use Rattle.live.specs.Sources.{AreSources, times_among}
use Rattle.live.specs.Reaching.{IsReaching, IsVisited, cost_to, costs_to, edges_to}
use Rattle.live.proofs.Backs.{AreInto, IsBack, begin, finish, grown_begun, places_begun, quiet}
use Rattle.live.proofs.Backs as backs
use Rattle.live.proofs.Members.{at_head, behind, no_member}
use Rattle.live.proofs.OneRoot.{consumed_costs, nothing_costs, waiting_cost, waiting_count}
use Rattle.live.proofs.Ranges.{all_same, total}
use Rattle.live.proofs.References.{counted_in, in_counted}
use Rattle.live.proofs.Times.{times_append, times_where}
use Rattle.live.proofs.Walks.{held_if_counting, marked_none}

-- ---- sources are places

entry_inside : (rows : List Entries) (kind : Entries → List ℕ) → kind no_entries ≡ [] → (a place : ℕ)
    → Contains (kind (entries_at rows a)) place → a < length rows
entry_inside rows kind none a place c = elim (cases_lt a (length rows)) as (λ _. a < length rows) [
  | inl lt ↦ lt
  | inr past ↦ absurd (no_member place
      (subst (λ xs. Contains xs place) (ap kind (get_or_past rows a no_entries past) ∙ none) c))
]

pub sources_inside : (rows : List Entries) (kind : Entries → List ℕ) → kind no_entries ≡ []
    → (place : ℕ) (sources : List ℕ) → AreSources rows kind place sources → (n : ℕ) → n ≡ length rows
    → All (λ t. t < n) sources
sources_inside rows kind none place sources are n en = λ k d l.
    let t : ℕ = slice_index_or sources k d in
    let here : Contains sources t = (k, l, get_or_default sources k t d l) in
    let inside =
    entry_inside rows kind none t place
    (counted_in place (kind (entries_at rows t))
    (let e = are.each t in let m = in_counted t sources here in omega (arith, e, m))) in
    omega (arith, inside, en)

-- ---- a place is visited

count_one : (a s : ℕ) → a ≡ reported (s + 1) → reported a ≡ reported (s + 1)
count_one a s e = omega (arith, e)

count_more : (x y m n : ℕ) → reported x ≡ reported (y + m) → reported (x + n) ≡ reported (y + (m + n))
count_more x y m n e = omega (arith, e)

visited_parts : (keep : Keep) (rows : List Entries) (place : ℕ) (rs os ds : List ℕ)
    → ((a : ℕ) → times_among rs a ≡ times_among (entries_at rows a).references place)
    → ((a : ℕ) → times_among os a ≡ times_among (if keep.outputs then (entries_at rows a).outputs else []) place)
    → ((a : ℕ) → times_among ds a
    ≡ times_among (if keep.derivations then (entries_at rows a).deriver else []) place)
    → (f g h i : Frontier) → g ≡ all_reached 1 0 f rs → h ≡ all_reached 1 0 g os → i ≡ all_reached 1 0 h ds
    → (s a b c d : ℕ) → a ≡ reported (s + 1) → reported b ≡ reported (a + length rs)
    → reported c ≡ reported (b + length os) → reported d ≡ reported (c + length ds)
    → IsVisited keep rows place f i s d
visited_parts keep rows place rs os ds ra oa da f g h i re oe de s a b c d an bn cn dn = record {
  sources = (rs ++ os) ++ ds;
  each = λ t. (
      let one = times_append (rs ++ os) ds t in
      let two = times_append rs os t in
      let three =
      times_append ((entries_at rows t).references ++ (if keep.outputs then (entries_at rows t).outputs else []))
      (if keep.derivations then (entries_at rows t).deriver else []) place in
      let four =
      times_append (entries_at rows t).references (if keep.outputs then (entries_at rows t).outputs else [])
      place in
      let r = ra t in
      let o = oa t in
      let x = da t in
      omega (arith, one, two, three, four, r, o, x));
  reached =
      de ∙ ap (λ y. all_reached 1 0 y ds)
      (oe ∙ ap (λ y. all_reached 1 0 y os) re ∙ sym (fold-append (reached 1 0) f rs os))
      ∙ sym (fold-append (reached 1 0) f (rs ++ os) ds);
  counted =
      dn ∙ count_more c s ((1 + length rs) + length os) (length ds)
      (cn ∙ count_more b s (1 + length rs) (length os) (bn ∙ count_more a s 1 (length rs) (count_one a s an)))
      ∙ ap (λ n. reported (s + n)) all;
}
  where
    all : (1 + length rs) + length os + length ds ≡ 1 + length ((rs ++ os) ++ ds)
    all = (let l = length-append (rs ++ os) ds in let m = length-append rs os in omega (arith, l, m))

pub visited_all : (keep : Keep) (rows : List Entries) (place : ℕ) (rs os ds : List ℕ)
    → AreSources rows (λ e. e.references) place rs → AreSources rows (λ e. e.outputs) place os
    → AreSources rows (λ e. e.deriver) place ds
    → (f g h i : Frontier) → g ≡ all_reached 1 0 f rs → h ≡ all_reached 1 0 g (if keep.outputs then os else [])
    → i ≡ all_reached 1 0 h (if keep.derivations then ds else [])
    → (s a b c d : ℕ) → a ≡ reported (s + 1) → reported b ≡ reported (a + length rs)
    → reported c ≡ reported (b + length (if keep.outputs then os else []))
    → reported d ≡ reported (c + length (if keep.derivations then ds else []))
    → IsVisited keep rows place f i s d
visited_all keep rows place rs os ds ra oa da =
    visited_parts keep rows place rs (if keep.outputs then os else []) (if keep.derivations then ds else []) ra.each
    (λ a. times_where keep.outputs os (entries_at rows a).outputs a place (oa.each a))
    (λ a. times_where keep.derivations ds (entries_at rows a).deriver a place (da.each a))

-- ---- how many edges there are to a place

split_below : (n : ℕ) (xs : List ℕ)
    → count_by (λ x. nat_lt x (suc n)) xs ≡ count_by (λ x. nat_lt x n) xs + times_among xs n
split_below n [] = refl
split_below n (x ∷ xs) =
    let rest = split_below n xs in
    let a = sum_by-cons (λ y. cond (nat_lt y (suc n)) 1 0) x xs in
    let b = sum_by-cons (λ y. cond (nat_lt y n) 1 0) x xs in
    let c = sum_by-cons (λ y. cond (y == n) 1 0) x xs in
    let here = one x in
    omega (arith, rest, a, b, c, here)
  where
    one : (x : ℕ) → ◌≡◌ {A = ℕ} (cond (nat_lt x (suc n)) 1 0) (cond (nat_lt x n) 1 0 + cond (x == n) 1 0)
    one x =
        elim (cases_order x n) as (λ _. ◌≡◌ {A = ℕ} (cond (nat_lt x (suc n)) 1 0)
        (cond (nat_lt x n) 1 0 + cond (x == n) 1 0)) [
          | inl same ↦ (
              let p : ◌≡◌ {A = ℕ} (cond (nat_lt x (suc n)) 1 0) 1 =
              ap (λ b. cond b 1 0) (lt-ltb x (suc n) (omega arith)) in
              let q : ◌≡◌ {A = ℕ} (cond (nat_lt x n) 1 0) 0 = ap (λ b. cond b 1 0) (le-ltb x n (omega arith)) in
              let r : ◌≡◌ {A = ℕ} (cond (x == n) 1 0) 1 = ap (λ b. cond b 1 0) (eq-eqb x n same) in
              omega (arith, p, q, r))
          | inr other ↦ elim other as (λ _. ◌≡◌ {A = ℕ} (cond (nat_lt x (suc n)) 1 0)
              (cond (nat_lt x n) 1 0 + cond (x == n) 1 0)) [
                | inl less ↦ (
                    let p : ◌≡◌ {A = ℕ} (cond (nat_lt x (suc n)) 1 0) 1 =
                    ap (λ b. cond b 1 0) (lt-ltb x (suc n) (omega arith)) in
                    let q : ◌≡◌ {A = ℕ} (cond (nat_lt x n) 1 0) 1 = ap (λ b. cond b 1 0) (lt-ltb x n less) in
                    let r : ◌≡◌ {A = ℕ} (cond (x == n) 1 0) 0 =
                    ap (λ b. cond b 1 0) (ne_eqb x n (λ e. absurd (omega arith))) in
                    omega (arith, p, q, r))
                | inr more ↦ (
                    let p : ◌≡◌ {A = ℕ} (cond (nat_lt x (suc n)) 1 0) 0 =
                    ap (λ b. cond b 1 0) (le-ltb x (suc n) (omega arith)) in
                    let q : ◌≡◌ {A = ℕ} (cond (nat_lt x n) 1 0) 0 = ap (λ b. cond b 1 0) (le-ltb x n (omega arith)) in
                    let r : ◌≡◌ {A = ℕ} (cond (x == n) 1 0) 0 =
                    ap (λ b. cond b 1 0) (ne_eqb x n (λ e. absurd (omega arith))) in
                    omega (arith, p, q, r))
              ]
        ]

none_below : (xs : List ℕ) → count_by (λ x. nat_lt x 0) xs ≡ 0
none_below [] = refl
none_below (x ∷ xs) =
    let rest = none_below xs in
    let a = sum_by-cons (λ y. cond (nat_lt y 0) 1 0) x xs in
    let p : ◌≡◌ {A = ℕ} (cond (nat_lt x 0) 1 0) 0 = ap (λ b. cond b 1 0) (le-ltb x 0 (omega arith)) in
    omega (arith, rest, a, p)

times_all : (xs : List ℕ) (n : ℕ) → sum_by (λ a. times_among xs a) (range_with_len 0 n) ≡ count_by (λ x. nat_lt x n) xs
times_all xs zero = sym (none_below xs)
times_all xs (suc n) =
    (let rest = times_all xs n in let t = total (λ a. times_among xs a) n in let s = split_below n xs in
    omega (arith, rest, t, s))

all_below : (xs : List ℕ) (n : ℕ) → ((x : ℕ) → Contains xs x → x < n) → count_by (λ x. nat_lt x n) xs ≡ length xs
all_below [] n inside = refl
all_below (x ∷ xs) n inside =
    let rest = all_below xs n (λ y c. inside y (behind x y xs c)) in
    let a = sum_by-cons (λ y. cond (nat_lt y n) 1 0) x xs in
    let p : ◌≡◌ {A = ℕ} (cond (nat_lt x n) 1 0) 1 = ap (λ b. cond b 1 0) (lt-ltb x n (inside x (at_head x xs))) in
    omega (arith, rest, a, p)

-- ---- the walk

-- what has an edge to a place, by what was visited
pub visited_into : (keep : Keep) (rows : List Entries) (place : ℕ) (f g : Frontier) (s t : ℕ)
    (v : IsVisited keep rows place f g s t) → AreInto keep rows place v.sources
visited_into keep rows place f g s t v = record {
  reported =
      λ a c. (let e = edge a c in (
        entry_inside rows held refl a place
            (held_if_counting keep (entries_at rows a) place e),
        e,
      ));
  noted =
      λ a h c. counted_in a v.sources
      (let e = v.each a in let m = in_counted place (edges_at keep rows a) c in omega (arith, e, m));
}
  where
    edge : (a : ℕ) → Contains v.sources a → Contains (edges_at keep rows a) place
    edge a c =
        counted_in place (edges_at keep rows a)
        (let e = v.each a in let m = in_counted a v.sources c in omega (arith, e, m))

-- each source is counted once, as each edge is
pub visited_cost : (keep : Keep) (rows : List Entries) (place : ℕ) (f g : Frontier) (s t : ℕ)
    (v : IsVisited keep rows place f g s t) → cost_to keep rows place ≡ 1 + length v.sources
visited_cost keep rows place f g s t v =
    let same : edges_to keep rows place ≡ sum_by (λ a. times_among v.sources a) (range_with_len 0 (length rows)) =
    all_same (λ a. times_among (edges_at keep rows a) place) (λ a. times_among v.sources a) (length rows)
    (λ a l. sym (v.each a)) in
    let all = times_all v.sources (length rows) in
    let below = all_below v.sources (length rows) (λ x c. ((visited_into keep rows place f g s t v).reported x c).0) in
    omega (arith, same, all, below)

costs_length : (keep : Keep) (rows : List Entries) → length (costs_to keep rows) ≡ length rows
costs_length keep rows = length-map-range_with_len (cost_to keep rows) 0 (length rows)

-- the marks are right, and a step was taken for each marked place that doesn't wait, and for each edge to it
pub record IsInward (keep : Keep) (rows : List Entries) (named : List ℕ) (f : Frontier) (steps : ℕ) : Type 0 where
  pub back : IsBack keep rows named f
  pub paid : (n : ℕ) × (reported steps ≡ reported n)
      × (n + waiting_cost (costs_to keep rows) f.waiting ≡ marked_cost 1 (costs_to keep rows) f.first)

module _ (keep : Keep) (rows : List Entries) (inside : AllInside rows) (named : List ℕ)
    (aims : All (λ t. t < length rows) named) where
  pub begin_at : (f g : Frontier) (n s : ℕ) → n ≡ length rows → f.first ≡ replicate n 1 → f.waiting ≡ replicate n false
      → g ≡ all_reached 1 0 f named → s ≡ 0 → IsInward keep rows named g s
  begin_at f g n s en firsts empty is none = record {
    back = begin keep rows inside named aims f g first wait is;
    paid = (0, ap reported none, costs);
  }
    where
      first : f.first ≡ replicate (length rows) 1
      first = firsts ∙ ap (λ k. replicate k 1) en

      wait : f.waiting ≡ replicate (length rows) false
      wait = empty ∙ ap (λ k. replicate k false) en

      costs : 0 + waiting_cost (costs_to keep rows) g.waiting ≡ marked_cost 1 (costs_to keep rows) g.first
      costs =
          let spent =
          (grown_begun rows f first wait named aims g is).spent (costs_to keep rows)
          (costs_length keep rows ∙ sym (places_begun rows f first wait)) in
          let nothing = nothing_costs (costs_to keep rows) f.waiting (quiet rows f first wait) in
          let unmarked =
          ap (marked_cost 1 (costs_to keep rows)) first ∙ marked_none 1 (costs_to keep rows) (length rows) in
          omega (arith, spent, nothing, unmarked)

  pub placed : (f h : Frontier) (s place : ℕ) → IsInward keep rows named f s → IsDequeued f.waiting h.waiting place
      → place < length rows
  placed f h s place w works = (w.back.waits place works.waited).0

  pub count_at : (f h : Frontier) (s : ℕ) → IsInward keep rows named f s → h.first ≡ f.first
      → length h.first ≡ length rows
  count_at f h s w firsts = ap length firsts ∙ w.back.places

  module _ (f h g : Frontier) (place s t : ℕ) (w : IsInward keep rows named f s) (firsts : h.first ≡ f.first)
      (works : IsDequeued f.waiting h.waiting place) (v : IsVisited keep rows place h g s t) where
    into : AreInto keep rows place v.sources
    into = visited_into keep rows place h g s t v

    pub visited_at : IsInward keep rows named g t
    visited_at = record {
      back = backs.step_taken keep rows inside named aims place v.sources into f h g w.back firsts works v.reached;
      paid = (w.paid.0 + (1 + length v.sources), (let k = w.paid.1 in let c = v.counted in omega arith), spends);
    }
      where
        spends : w.paid.0 + (1 + length v.sources) + waiting_cost (costs_to keep rows) g.waiting
            ≡ marked_cost 1 (costs_to keep rows) g.first
        spends =
            let k = w.paid.2 in
            let grown =
            backs.grown keep rows inside named aims place v.sources into f h g w.back firsts works v.reached in
            let l =
            grown.spent (costs_to keep rows) (costs_length keep rows ∙ sym (ap length firsts ∙ w.back.places)) in
            let m =
            consumed_costs f.waiting h.waiting place works (costs_to keep rows)
            (costs_length keep rows ∙ sym w.back.count) in
            let n =
            get_or-map-range_with_len (cost_to keep rows) 0 (length rows) place place 0 (placed f h s place w works)
            (omega arith) in
            let o = ap (marked_cost 1 (costs_to keep rows)) firsts in
            let p = visited_cost keep rows place h g s t v in
            omega (arith, k, l, m, n, o, p)

    pub smaller_at : count_by (λ m. nat_le 1 m) g.first + waiting_count g.waiting
        < count_by (λ m. nat_le 1 m) f.first + waiting_count f.waiting
    smaller_at = backs.smaller keep rows inside named aims place v.sources into f h g w.back firsts works v.reached

  pub finish_at : (f h : Frontier) (s : ℕ) (marks : List ℕ) (steps : ℕ) → IsInward keep rows named f s
      → h.waiting ≡ f.waiting → NoneWaits h.waiting → marks ≡ f.first → steps ≡ s → s < 2 ^ 64
      → IsReaching keep rows named (record { marks = marks; steps = steps })
  finish_at f h s marks steps w same none is en fits = record {
    backward = finish keep rows inside named aims f marks (subst NoneWaits same none) w.back is;
    steps = (
        let k = w.paid.1 in let l = w.paid.2 in
        let nothing = nothing_costs (costs_to keep rows) f.waiting (subst NoneWaits same none) in
        let o = ap (marked_cost 1 (costs_to keep rows)) is in
        omega (arith, k, l, nothing, o, en, fits));
  }
