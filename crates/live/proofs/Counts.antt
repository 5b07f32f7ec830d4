-- References that are counted at their targets.
use Rattle.std.proofs.Common.{◌≡◌, ℕ, suc, ◌+◌, ◌<◌, ◌≤◌, ◌==◌, List, [], ◌++◌, replicate, length, take, refl, sym, ap}
use Rattle.std.proofs.Common.{◌∙◌, subst, inl, inr, arith}
use Rattle.std.specs.Prelude.{if◌then◌else◌}
use Rattle.std.specs.List.{slice_index, slice_set, range_with_len, sum_by}
use Rattle.std.proofs.lemmas.Bool.{cases_eq, eq-eqb, ne_eqb}
use Rattle.std.proofs.lemmas.List.{length-set, get_or-set_same, get_or-set_other, take_all, get_or_append_left}
use Rattle.std.proofs.lemmas.List.{append_assoc, length-append, length-replicate, get_or-replicate}
use Rattle.std.proofs.lemmas.List.Sums.{count_by_more_yes, count_by_more_no}
use Rattle.live.specs.Places.{Entries, held}
use Rattle.live.specs.Remainder.{times_in, times}
use Rattle.live.proofs.Ranges.{total}
use Rattle.live.proofs.References.{times_other, times_self}

-- the first references of an object are counted
pub record IsCounted (p : ℕ) (references before after : List ℕ) : Type 0 where
  pub count : length after ≡ length before
  pub reported : (t : ℕ) → t < length before → slice_index after t ≡ slice_index before t + times_in p references t

pub none_counted : (p : ℕ) (before : List ℕ) → IsCounted p [] before before
none_counted p before = record { count = refl; reported = λ t h. (let z = nothing t in omega (arith, z)) }
  where
    nothing : (t : ℕ) → times_in p [] t ≡ 0
    nothing t =
        elim (cases_eq p t) as (λ _. times_in p [] t ≡ 0) [
          | inl same ↦ times_self p t [] same
          | inr other ↦ times_other p t [] other
        ]

-- a reference to another
pub one_counted : (p : ℕ) (xs before now after : List ℕ) (k x : ℕ) → k < length xs → x ≡ slice_index xs k
    → x < length before → (x ≡ p → ⊥) → IsCounted p (take k xs) before now
    → after ≡ slice_set now x (slice_index now x + 1) → IsCounted p (take (k + 1) xs) before after
one_counted p xs before now after k x h is inside other c a = record {
  count = ap length a ∙ length-set now x (slice_index now x + 1) ∙ c.count;
  reported =
      λ t b. elim (cases_eq x t) as (λ _. slice_index after t ≡ slice_index before t + times_in p (take (k + 1) xs) t) [
        | inl e ↦ subst (λ u. slice_index after u ≡ slice_index before u + times_in p (take (k + 1) xs) u) e (
            let set_here : slice_index after x ≡ slice_index now x + 1 =
            ap (λ (ns : List ℕ). slice_index ns x) a
            ∙ get_or-set_same now x (slice_index now x + 1) 0 (let n = c.count in omega arith) in
            let was = c.reported x inside in
            let yes = count_by_more_yes (λ y. y == x) xs k 0 h (ap (λ y. y == x) (sym is) ∙ eq-eqb x x refl) in
            let m = times_other p x (take (k + 1) xs) (λ f. other (sym f)) in
            let n = times_other p x (take k xs) (λ f. other (sym f)) in
            omega (arith, set_here, was, yes, m, n))
        | inr differs ↦ (
            let same : slice_index after t ≡ slice_index now t =
            ap (λ (ns : List ℕ). slice_index ns t) a
            ∙ get_or-set_other now x t (slice_index now x + 1) 0 (λ f. differs (sym f)) in
            let was = c.reported t b in
            let no = count_by_more_no (λ y. y == t) xs k 0 h (ap (λ y. y == t) (sym is) ∙ ne_eqb x t differs) in
            let times_same : times_in p (take (k + 1) xs) t ≡ times_in p (take k xs) t =
            ap (λ n. if p == t then 0 else n) no in
            omega (arith, same, was, times_same))
      ];
}

-- a reference of the object to itself
pub self_counted : (p : ℕ) (xs before now : List ℕ) (k x : ℕ) → k < length xs → x ≡ slice_index xs k → x ≡ p
    → IsCounted p (take k xs) before now → IsCounted p (take (k + 1) xs) before now
self_counted p xs before now k x h is self c = record {
  count = c.count;
  reported =
      λ t b. elim (cases_eq p t) as (λ _. slice_index now t ≡ slice_index before t + times_in p (take (k + 1) xs) t) [
        | inl e ↦ (let was = c.reported t b in let m = times_self p t (take (k + 1) xs) e in
            let n = times_self p t (take k xs) e in omega (arith, was, m, n))
        | inr differs ↦ (
            let was = c.reported t b in
            let no =
            count_by_more_no (λ y. y == t) xs k 0 h
            (ap (λ y. y == t) (sym is) ∙ ne_eqb x t (λ f. differs (sym self ∙ f))) in
            let times_same : times_in p (take (k + 1) xs) t ≡ times_in p (take k xs) t =
            ap (λ n. if p == t then 0 else n) no in
            omega (arith, was, times_same))
      ];
}

pub all_counted : (p : ℕ) (xs before now : List ℕ) (k : ℕ) → length xs ≤ k → IsCounted p (take k xs) before now
    → (t : ℕ) → t < length before → slice_index now t ≡ slice_index before t + times_in p xs t
all_counted p xs before now k h c t b =
    c.reported t b ∙ ap (λ ys. slice_index before t + times_in p ys t) (take_all k xs h)

-- a reference is first among what is held
pub first_held : (e : Entries) (k : ℕ) → k < length e.references → slice_index (held e) k ≡ slice_index e.references k
first_held e k h =
    ap (λ (xs : List ℕ). slice_index xs k) (append_assoc e.references e.outputs e.deriver)
    ∙ get_or_append_left e.references (e.outputs ++ e.deriver) 0 k h

pub held_at_least : (e : Entries) → length e.references ≤ length (held e)
held_at_least e =
    (let a = length-append (e.references ++ e.outputs) e.deriver in let b = length-append e.references e.outputs in
    omega (arith, a, b))

-- the first objects are counted
pub record CountedBelow (es : List Entries) (n : ℕ) (counts : List ℕ) : Type 0 where
  pub count : length counts ≡ length es
  pub reported : (t : ℕ) → t < length es → slice_index counts t ≡ sum_by (λ q. times es q t) (range_with_len 0 n)

pub object_counted : (es : List Entries) (n : ℕ) (before after : List ℕ) → CountedBelow es n before
    → length after ≡ length es
    → ((t : ℕ) → t < length es → slice_index after t ≡ slice_index before t + times es n t)
    → CountedBelow es (n + 1) after
object_counted es n before after c l more = record {
  count = l;
  reported =
      λ t h. (let a = c.reported t h in let b = more t h in let s = total (λ q. times es q t) n in
      let e : n + 1 ≡ suc n = omega arith in
      let f = ap (λ k. sum_by (λ q. times es q t) (range_with_len 0 k)) e in omega (arith, a, b, s, f));
}

pub no_object_counted : (es : List Entries) (counts : List ℕ) → counts ≡ replicate (length es) 0
    → CountedBelow es 0 counts
no_object_counted es counts e = record {
  count = ap length e ∙ length-replicate (length es) 0;
  reported = λ t h. ap (λ (ns : List ℕ). slice_index ns t) e ∙ get_or-replicate (length es) t 0 0 h;
}
