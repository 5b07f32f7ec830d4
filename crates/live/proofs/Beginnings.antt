-- A collection up to a limit before anything is deleted.
use Rattle.std.proofs.Common.{◌≡◌, ℕ, ◌+◌, ◌<◌, Bool, true, false, List, [], ◌∷◌, ◌++◌, length, replicate, Option, Some}
use Rattle.std.proofs.Common.{None, refl, sym, ap, ◌∙◌, subst, inl, inr, arith, IsTrue, ◌⊎◌}
use Rattle.std.specs.Prelude.{Contains, is_none, is_some, not, if◌then◌else◌}
use Rattle.std.specs.List.{range_with_len, slice_index, sum_by}
use Rattle.std.specs.List.Sorted.{IsPermutation}
use Rattle.std.specs.BinaryHeap.{IsHeap}
use Rattle.std.specs.declared.cmp.Reverse.{Reverse}
use Rattle.std.proofs.lemmas.Bool.{cases_lt, false≢true}
use Rattle.std.proofs.lemmas.List.{length_push, get_or_append_left, get_or_push, length-replicate, get_or-replicate}
use Rattle.std.proofs.lemmas.List.Sorted.{Contains-permutation, IsPermutation-sym}
use Rattle.live.specs.Places.{Entries}
use Rattle.live.specs.Marks.{Marking, first_of}
use Rattle.live.specs.Remainder.{IsRemaining, at, is_in, least_first, nothing_owed, times, times_left}
use Rattle.live.proofs.Members.{cases, at_head, behind, no_member}
use Rattle.live.proofs.Ranges.{all_same}

-- what a test for nothing says
pub none_reported : (o : Option ℕ) (r : Bool) → is_some o ≡ not r → r ≡ is_none o
none_reported None true e = refl
none_reported None false e = absurd (false≢true e)
none_reported (Some k) true e = absurd (false≢true (sym e))
none_reported (Some k) false e = refl

-- the first places are found dead or not, and wait where nothing refers to them
pub record IsBegun (m : Marking) (referrers : List ℕ) (n : ℕ) (dead : List Bool) (ready : List (Reverse ℕ)) : Type
    0 where
  pub count : length dead ≡ n
  pub deads : (i : ℕ) → i < n → is_in dead i ≡ is_none (first_of m i)
  pub waits : (r : Reverse ℕ) → Contains ready r → (r.0 < n) × (slice_index referrers r.0 ≡ 0)
  pub complete : (t : ℕ) → t < n → slice_index referrers t ≡ 0 → Contains ready (at t)
  pub ordered : IsHeap least_first ready

pub begun_none : (m : Marking) (referrers : List ℕ) (ready : List (Reverse ℕ)) → ready ≡ [] → IsHeap least_first ready
    → IsBegun m referrers 0 [] ready
begun_none m referrers ready empty heap = record {
  count = refl;
  deads = λ i h. absurd (omega arith);
  waits = λ r c. absurd (no_member r (subst (λ xs. Contains xs r) empty c));
  complete = λ t h z. absurd (omega arith);
  ordered = heap;
}

pub begun_more : (m : Marking) (referrers : List ℕ) (n : ℕ) (dead : List Bool) (ready new : List (Reverse ℕ)) (b : Bool)
    → IsBegun m referrers n dead ready → b ≡ is_none (first_of m n)
    → IsHeap least_first new → ((r : Reverse ℕ) → Contains new r
    → Contains ready r ⊎ ((r ≡ at n) × (slice_index referrers n ≡ 0)))
    → ((r : Reverse ℕ) → Contains ready r → Contains new r)
    → (slice_index referrers n ≡ 0 → Contains new (at n)) → IsBegun m referrers (n + 1) (dead ++ b ∷ []) new
begun_more m referrers n dead ready new b i is heap reported kept noted = record {
  count = length_push dead b ∙ ap (λ k. k + 1) i.count;
  deads = λ k h. elim (cases_lt k n) as (λ _. is_in (dead ++ b ∷ []) k ≡ is_none (first_of m k)) [
    | inl lt ↦ get_or_append_left dead (b ∷ []) false k (let c = i.count in omega arith) ∙ i.deads k lt
    | inr ge ↦ (let same : n ≡ k = omega arith in
        subst (λ j. is_in (dead ++ b ∷ []) j ≡ is_none (first_of m j)) same (get_or_push dead b false n i.count ∙ is))
  ];
  waits = λ r c. elim (reported r c) as (λ _. (r.0 < n + 1) × (slice_index referrers r.0 ≡ 0)) [
    | inl old ↦ (let w = i.waits r old in ((let l = w.0 in omega arith), w.1))
    | inr fresh ↦ (
        let e : r.0 ≡ n = ap (λ (q : Reverse ℕ). q.0) fresh.0 in
        (omega (arith, e), ap (slice_index referrers) e ∙ fresh.1))
  ];
  complete = λ t h z. elim (cases_lt t n) as (λ _. Contains new (at t)) [
    | inl lt ↦ kept (at t) (i.complete t lt z)
    | inr ge ↦ (let same : n ≡ t = omega arith in
        subst (λ j. Contains new (at j)) same (noted (ap (slice_index referrers) same ∙ z)))
  ];
  ordered = heap;
}

-- a place that nothing refers to waits
pub begun_waiting : (m : Marking) (referrers : List ℕ) (n : ℕ) (dead : List Bool) (ready new : List (Reverse ℕ))
    (b : Bool) → IsBegun m referrers n dead ready → b ≡ is_none (first_of m n)
    → slice_index referrers n ≡ 0 → IsPermutation (at n ∷ ready) new → IsHeap least_first new
    → IsBegun m referrers (n + 1) (dead ++ b ∷ []) new
begun_waiting m referrers n dead ready new b i is zero moved heap =
    begun_more m referrers n dead ready new b i is heap
    (λ r c. elim (cases (at n) r ready
    (Contains-permutation new (at n ∷ ready) r (IsPermutation-sym _ _ moved) c)) as (λ _. Contains ready r
    ⊎ ((r ≡ at n) × (slice_index referrers n ≡ 0))) [
      | inl e ↦ inr (sym e, zero)
      | inr old ↦ inl old
    ])
    (λ r c. Contains-permutation (at n ∷ ready) new r moved (behind (at n) r ready c))
    (λ z. Contains-permutation (at n ∷ ready) new (at n) moved (at_head (at n) ready))

-- another doesn't
pub begun_referred : (m : Marking) (referrers : List ℕ) (n : ℕ) (dead : List Bool) (ready : List (Reverse ℕ)) (b : Bool)
    → IsBegun m referrers n dead ready → b ≡ is_none (first_of m n)
    → (slice_index referrers n ≡ 0 → ⊥) → IsBegun m referrers (n + 1) (dead ++ b ∷ []) ready
begun_referred m referrers n dead ready b i is some =
    begun_more m referrers n dead ready ready b i is i.ordered (λ r c. inl c) (λ r c. c) (λ z. absurd (some z))

-- all is reported
module _ (es : List Entries) (m : Marking) (referrers : List ℕ) (n : ℕ) (dead left : List Bool)
    (ready : List (Reverse ℕ)) (i : IsBegun m referrers n dead ready) (all : n ≡ length es)
    (lefts : left ≡ replicate (length es) true) where
  count : length left ≡ length es
  count = ap length lefts ∙ length-replicate (length es) true

  pub left_at : (k : ℕ) → k < length es → IsTrue (is_in left k)
  left_at k h = ap (λ (bs : List Bool). is_in bs k) lefts ∙ get_or-replicate (length es) k true false h

  pub dead_at : (k : ℕ) → k < length es → is_in dead k ≡ is_none (first_of m k)
  dead_at k h = i.deads k (omega (arith, all))

  pub begun : length referrers ≡ length es
      → ((t : ℕ) → t < length es → slice_index referrers t ≡ sum_by (λ q. times es q t) (range_with_len 0 (length es)))
      → IsRemaining es nothing_owed (record { dead = dead; left = left; referrers = referrers; ready = ready })
  begun counts reported = record {
    deads = i.count ∙ all;
    places = count;
    counts = counts;
    counted = λ t h. (
        let a = reported t h in
        let b =
        all_same (times_left es left t) (λ q. times es q t) (length es)
        (λ q l. ap (λ (c : Bool). if c then times es q t else 0) (left_at q l)) in
        let c = ap (λ k. sum_by (times_left es left t) (range_with_len 0 k)) count in
        omega (arith, a, b, c));
    waits = λ r c. (let w = i.waits r c in ((let l = w.0 in omega (arith, all)), w.1));
    complete = λ t h d l z. i.complete t (omega (arith, all)) z;
    ordered = i.ordered;
  }
