-- Empty lists, laid one after another.
use Rattle.std.proofs.Common.{◌≡◌, ℕ, ◌+◌, ◌<◌, ◌≤◌, List, [], ◌∷◌, ◌++◌, length, refl, sym, ap, ◌∙◌, subst, inl, inr}
use Rattle.std.proofs.Common.{arith}
use Rattle.std.specs.Prelude.{Contains}
use Rattle.std.specs.List.{slice_range}
use Rattle.std.proofs.lemmas.Bool.{cases_eq, cases_lt}
use Rattle.std.proofs.lemmas.List.{get_or_past, get_or_append_left, get_or_push, length_push}
use Rattle.std.proofs.lemmas.List.Edits.{between_none}
use Rattle.live.specs.Backward.{AreEmpty, AreLaid, Reversed, no_range, range_at}
use Rattle.live.specs.declared.reversed_graph.Range.{Range}
use Rattle.live.proofs.Members.{no_member}

-- N lists that have nothing, with room up to a limit
pub record AreBegun (n limit : ℕ) (ranges : List Range) : Type 0 where
  pub count : length ranges ≡ n
  pub empty : (k : ℕ) → (range_at ranges k).end ≡ (range_at ranges k).start
  pub laid : AreLaid ranges limit

pub begun_none : AreBegun 0 0 []
begun_none = record {
  count = refl;
  empty = λ k. ap (λ (q : Range). q.end) (past k) ∙ sym (ap (λ (q : Range). q.start) (past k));
  laid = record {
    begun = λ k. (let s = ap (λ (q : Range). q.start) (past k) in omega (arith, s));
    room = λ k. (let e = ap (λ (q : Range). q.end) (past k) in omega (arith, e));
    within = λ k. (let l = ap (λ (q : Range). q.limit) (past k) in omega (arith, l));
    disjoint = λ j k a b. absurd (omega arith);
  };
}
  where
    past : (k : ℕ) → range_at [] k ≡ no_range
    past k = get_or_past [] k no_range (omega arith)

module _ (n old limit : ℕ) (ranges : List Range) (m : AreBegun n old ranges) (more : old ≤ limit) where
  abbrev next : Range
  next = record { start = old; end = old; limit = limit }

  same : (k : ℕ) → k < n → range_at (ranges ++ next ∷ []) k ≡ range_at ranges k
  same k h = get_or_append_left ranges (next ∷ []) no_range k (let c = m.count in omega arith)

  last : (k : ℕ) → k ≡ n → range_at (ranges ++ next ∷ []) k ≡ next
  last k h = get_or_push ranges next no_range k (m.count ∙ sym h)

  past : (k : ℕ) → n < k → range_at (ranges ++ next ∷ []) k ≡ no_range
  past k h = get_or_past (ranges ++ next ∷ []) k no_range (let c = m.count in omega (arith, length_push ranges next))

  each : (P : Range → Type 0) → ((k : ℕ) → P (range_at ranges k)) → P next → P no_range → (k : ℕ)
      → P (range_at (ranges ++ next ∷ []) k)
  each P olds here none k = elim (cases_lt k n) as (λ _. P (range_at (ranges ++ next ∷ []) k)) [
    | inl lt ↦ subst P (sym (same k lt)) (olds k)
    | inr ge ↦ elim (cases_eq k n) as (λ _. P (range_at (ranges ++ next ∷ []) k)) [
      | inl e ↦ subst P (sym (last k e)) here
      | inr other ↦ subst P (sym (past k (omega (arith, ge, other)))) none
    ]
  ]

  pub begun_more : AreBegun (n + 1) limit (ranges ++ (record { start = old; end = old; limit = limit }) ∷ [])
  begun_more = record {
    count = length_push ranges next ∙ ap (λ k. k + 1) m.count;
    empty = each (λ (q : Range). q.end ≡ q.start) m.empty refl refl;
    laid = record {
      begun = each (λ (q : Range). q.start ≤ q.end) m.laid.begun (omega arith) (omega arith);
      room = each (λ (q : Range). q.end ≤ q.limit) m.laid.room more (omega arith);
      within =
          each (λ (q : Range). q.limit ≤ limit) (λ k. (let w = m.laid.within k in omega arith)) (omega arith)
          (omega arith);
      disjoint =
          λ j k a b. (let c = m.count in let l = length_push ranges next in
          elim (cases_lt k n) as (λ _. (range_at (ranges ++ next ∷ []) j).limit
          ≤ (range_at (ranges ++ next ∷ []) k).start) [
            | inl lt ↦ (
                let p = ap (λ (q : Range). q.limit) (same j (omega arith)) in let r =
                ap (λ (q : Range). q.start) (same k lt) in
                let o = m.laid.disjoint j k a (omega arith) in omega (arith, p, r, o))
            | inr ge ↦ (
                let p = ap (λ (q : Range). q.limit) (same j (omega arith)) in let r =
                ap (λ (q : Range). q.start) (last k (omega arith)) in
                let w = m.laid.within j in omega (arith, p, r, w))
          ]);
    };
  }

pub all_begun : (into : Reversed) (n limit : ℕ) → AreBegun n limit into.ranges → length into.sources ≡ limit
    → AreEmpty into × AreLaid into.ranges (length into.sources)
all_begun into n limit m e = (
  record {
    none = λ k x c. no_member x (subst (λ (xs : List ℕ). Contains xs x)
        (ap (slice_range into.sources (range_at into.ranges k).start) (m.empty k)
        ∙ between_none into.sources (range_at into.ranges k).start) c);
  },
  subst (AreLaid into.ranges) (sym e) m.laid,
)
