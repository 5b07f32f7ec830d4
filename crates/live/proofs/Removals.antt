-- What is left, as paths go and as the heap is looked through.
use Rattle.std.proofs.Common.{◌≡◌, ℕ, ◌+◌, ◌-◌, ◌<◌, ◌≤◌, ◌&&◌, ◌==◌, Bool, true, false, cond, List, [], ◌∷◌, length}
use Rattle.std.proofs.Common.{get_or, drop, Option, Some, None, refl, sym, ap, ◌∙◌, subst, inl, inr, arith, IsTrue, ◌⊎◌}
use Rattle.std.specs.Prelude.{IsSome, IfSome, Contains, count_by, not, if◌then◌else◌}
use Rattle.std.specs.List.{slice_index, slice_set, range_with_len, sum_by}
use Rattle.std.specs.List.Sorted.{IsPermutation}
use Rattle.std.specs.Ordering.{is_lt, nat_cmp}
use Rattle.std.specs.BinaryHeap.{IsHeap, IsUpperBound, PopsGreatest}
use Rattle.std.specs.declared.cmp.Reverse.{Reverse}
use Rattle.std.proofs.lemmas.Bool.{cases_eq, false≢true, eq-eqb, ne_eqb, eqb-true}
use Rattle.std.proofs.lemmas.List.{length-set, get_or-set_same, get_or-set_other, drop_all, get_or_default}
use Rattle.std.proofs.lemmas.List.Sums.{sum_by-cons}
use Rattle.std.proofs.lemmas.List.Sorted.{Contains-permutation, IsPermutation-sym}
use Rattle.std.proofs.lemmas.Map.Keys.{ge_from_not_lt}
use Rattle.live.specs.Places.{Entries}
use Rattle.live.specs.Remainder.{Remaining, IsRemaining, IsNextUnreferred, NoneUnreferred, at, is_in, least_first}
use Rattle.live.specs.Remainder.{nothing_owed, times_in, times, times_left, referred}
use Rattle.live.proofs.Members.{cases, at_head, behind, no_member}
use Rattle.live.proofs.Ranges.{one_changed}
use Rattle.live.proofs.References.{times_other, times_self}

-- ---- references that still count

times_next : (p x : ℕ) (xs : List ℕ) → (p ≡ x → ⊥) → times_in p (x ∷ xs) x ≡ 1 + times_in p xs x
times_next p x xs other =
    let a = times_other p x (x ∷ xs) other in
    let b = times_other p x xs other in
    let s = sum_by-cons (λ y. cond (y == x) 1 0) x xs in
    let e : ◌≡◌ {A = ℕ} (cond (x == x) 1 0) 1 = ap (λ b. cond b 1 0) (eq-eqb x x refl) in
    omega (arith, a, b, s, e)

times_past : (p x u : ℕ) (xs : List ℕ) → (x ≡ u → ⊥) → times_in p (x ∷ xs) u ≡ times_in p xs u
times_past p x u xs other =
    let s = sum_by-cons (λ y. cond (y == u) 1 0) x xs in
    let e : ◌≡◌ {A = ℕ} (cond (x == u) 1 0) 0 = ap (λ b. cond b 1 0) (ne_eqb x u other) in
    let c : count_by (λ y. y == u) (x ∷ xs) ≡ count_by (λ y. y == u) xs = omega (arith, s, e) in
    ap (λ n. if p == u then 0 else n) c

pub owing : (es : List Entries) (a b : ℕ → ℕ) (s : Remaining) → ((u : ℕ) → a u ≡ b u) → IsRemaining es a s
    → IsRemaining es b s
owing es a b s same r = record {
  deads = r.deads;
  places = r.places;
  counts = r.counts;
  counted = λ t h. (let c = r.counted t h in let e = same t in omega (arith, c, e));
  waits = r.waits;
  complete = r.complete;
  ordered = r.ordered;
}

-- a reference of the object to itself
pub skipped : (es : List Entries) (p x : ℕ) (xs : List ℕ) (s : Remaining) → p ≡ x
    → IsRemaining es (times_in p (x ∷ xs)) s → IsRemaining es (times_in p xs) s
skipped es p x xs s same r = owing es (times_in p (x ∷ xs)) (times_in p xs) s
    (λ u. elim (cases_eq x u) as (λ _. times_in p (x ∷ xs) u ≡ times_in p xs u) [
      | inl e ↦ times_self p u (x ∷ xs) (same ∙ e) ∙ sym (times_self p u xs (same ∙ e))
      | inr other ↦ times_past p x u xs other
    ]) r

-- a reference to another
module _ (es : List Entries) (p x : ℕ) (xs : List ℕ) (s t : Remaining) (other : p ≡ x → ⊥) (inside : x < length es)
    (r : IsRemaining es (times_in p (x ∷ xs)) s) where
  pub positive : 0 < slice_index s.referrers x
  positive = (let c = r.counted x inside in let n = times_next p x xs other in omega (arith, c, n))

  pub lessened : t.dead ≡ s.dead → t.left ≡ s.left
      → t.referrers ≡ slice_set s.referrers x (slice_index s.referrers x - 1)
      → IsPermutation (if slice_index s.referrers x == 1 then at x ∷ s.ready else s.ready) t.ready
      → IsHeap least_first t.ready → IsRemaining es (times_in p xs) t
  lessened dead left referrers ready ordered = record {
    deads = ap length dead ∙ r.deads;
    places = ap length left ∙ r.places;
    counts = ap length referrers ∙ length-set s.referrers x (slice_index s.referrers x - 1) ∙ r.counts;
    counted = λ u h. elim (cases_eq x u) as (λ _. slice_index t.referrers u ≡ referred es t.left u + times_in p xs u) [
      | inl e ↦ subst (λ v. slice_index t.referrers v ≡ referred es t.left v + times_in p xs v) e (
          let c = r.counted x inside in
          let n = times_next p x xs other in
          let l = ap (λ (bs : List Bool). referred es bs x) left in
          omega (arith, c, n, here, l))
      | inr differs ↦ (
          let c = r.counted u h in
          let n = times_past p x u xs differs in
          let l = ap (λ (bs : List Bool). referred es bs u) left in
          let a = present u differs in
          omega (arith, c, n, l, a))
    ];
    waits = λ y c. elim (cases_ready y c) as (λ _. (y.0 < length es) × (slice_index t.referrers y.0 ≡ 0)) [
      | inl new ↦ (
        subst (λ (z : Reverse ℕ). z.0 < length es) new.0 inside,
        subst (λ (z : Reverse ℕ). slice_index t.referrers z.0 ≡ 0) new.0 (let o = new.1 in omega (arith, here)),
      )
      | inr old ↦ (let w = r.waits y old in
          let differs : x ≡ y.0 → ⊥ = λ e.
          (let q = ap (slice_index s.referrers) e in let z = w.1 in omega (arith, positive, q, z)) in
          (w.0, present y.0 differs ∙ w.1))
    ];
    complete = λ u h d l z. elim (cases_eq x u) as (λ _. Contains t.ready (at u)) [
      | inl e ↦ subst (λ v. Contains t.ready (at v)) e
          (Contains-permutation (if slice_index s.referrers x == 1 then at x ∷ s.ready else s.ready) t.ready (at x)
          ready
          (subst (λ (b : Bool). Contains (if b then at x ∷ s.ready else s.ready) (at x))
          (sym (eq-eqb (slice_index s.referrers x) 1
          (let q = ap (slice_index t.referrers) e in omega (arith, z, q, here, positive))))
          (at_head (at x) s.ready)))
      | inr differs ↦ kept (at u) (r.complete u h (subst (λ (bs : List Bool). IsTrue (is_in bs u)) dead d)
          (subst (λ (bs : List Bool). IsTrue (is_in bs u)) left l) (sym (present u differs) ∙ z))
    ];
    ordered = ordered;
  }
    where
      here : slice_index t.referrers x ≡ slice_index s.referrers x - 1
      here =
          ap (λ (ns : List ℕ). slice_index ns x) referrers
          ∙ get_or-set_same s.referrers x (slice_index s.referrers x - 1) 0 (let c = r.counts in omega (arith, inside))

      present : (u : ℕ) → (x ≡ u → ⊥) → slice_index t.referrers u ≡ slice_index s.referrers u
      present u differs =
          ap (λ (ns : List ℕ). slice_index ns u) referrers
          ∙ get_or-set_other s.referrers x u (slice_index s.referrers x - 1) 0 (λ e. differs (sym e))

      kept : (y : Reverse ℕ) → Contains s.ready y → Contains t.ready y
      kept y c =
          Contains-permutation (if slice_index s.referrers x == 1 then at x ∷ s.ready else s.ready) t.ready y ready
          (by (slice_index s.referrers x == 1))
        where
          by : (b : Bool) → Contains (if b then at x ∷ s.ready else s.ready) y
          by true = behind (at x) y s.ready c
          by false = c

      cases_ready : (y : Reverse ℕ) → Contains t.ready y
          → ((at x ≡ y) × (slice_index s.referrers x ≡ 1)) ⊎ Contains s.ready y
      cases_ready y c =
          by (slice_index s.referrers x == 1) refl
          (Contains-permutation t.ready (if slice_index s.referrers x == 1 then at x ∷ s.ready else s.ready) y
          (IsPermutation-sym _ _ ready) c)
        where
          by : (b : Bool) → (slice_index s.referrers x == 1) ≡ b → Contains (if b then at x ∷ s.ready else s.ready) y
              → ((at x ≡ y) × (slice_index s.referrers x ≡ 1)) ⊎ Contains s.ready y
          by true e d =
              elim (cases (at x) y s.ready d) as (λ _. ((at x ≡ y) × (slice_index s.referrers x ≡ 1))
              ⊎ Contains s.ready y) [
                | inl is ↦ inl (is, eqb-true (slice_index s.referrers x) 1 e)
                | inr old ↦ inr old
              ]
          by false e d = inr d

-- none counts any more
pub settled : (es : List Entries) (p : ℕ) (xs : List ℕ) (k : ℕ) (s : Remaining) → length xs ≤ k
    → IsRemaining es (times_in p (drop k xs)) s → IsRemaining es nothing_owed s
settled es p xs k s h r = owing es (times_in p (drop k xs)) nothing_owed s
    (λ u. ap (λ ys. times_in p ys u) (drop_all k xs h)
    ∙ elim (cases_eq p u) as (λ _. times_in p [] u ≡ 0) [
      | inl same ↦ times_self p u [] same
      | inr other ↦ times_other p u [] other
    ]) r

-- ---- a path is deleted

module _ (es : List Entries) (s : Remaining) (p : ℕ) (inside : p < length es) where
  removed_at : List Bool
  removed_at = slice_set s.left p false

  other_left : (i : ℕ) → (p ≡ i → ⊥) → is_in (slice_set s.left p false) i ≡ is_in s.left i
  other_left i differs = get_or-set_other s.left p i false false (λ e. differs (sym e))

  not_left : length s.left ≡ length es → is_in (slice_set s.left p false) p ≡ false
  not_left n = get_or-set_same s.left p false false (omega (arith, n, inside))

  pub goes : IsRemaining es nothing_owed s → IsTrue (is_in s.left p)
      → IsRemaining es (times es p) (record s { left = slice_set s.left p false })
  goes r l = record {
    deads = r.deads;
    places = length-set s.left p false ∙ r.places;
    counts = r.counts;
    counted = λ t h. (
        let c = r.counted t h in
        let n = length-set s.left p false in
        let changed =
        one_changed (times_left es s.left t) (times_left es (slice_set s.left p false) t) (length s.left) p
        (let m = r.places in omega (arith, inside))
        (λ q differs. ap (λ (b : Bool). if b then times es q t else 0) (sym (other_left q (λ e. differs (sym e))))) in
        let was : times_left es s.left t p ≡ times es p t = ap (λ (b : Bool). if b then times es p t else 0) l in
        let is : times_left es (slice_set s.left p false) t p ≡ 0 =
        ap (λ (b : Bool). if b then times es p t else 0) (not_left r.places) in
        let same = ap (λ k. sum_by (times_left es (slice_set s.left p false) t) (range_with_len 0 k)) n in
        omega (arith, c, changed, was, is, same));
    waits = r.waits;
    complete = λ t h d k z. r.complete t h d (elim (cases_eq p t) as (λ _. IsTrue (is_in s.left t)) [
      | inl e ↦ subst (λ j. IsTrue (is_in s.left j)) e l
      | inr differs ↦ sym (other_left t differs) ∙ k
    ]) z;
    ordered = r.ordered;
  }

  pub left_one : length s.left ≡ length es → (i : ℕ)
      → is_in (slice_set s.left p false) i ≡ (is_in s.left i && not (p == i))
  left_one n i = elim (cases_eq p i) as (λ _. is_in (slice_set s.left p false) i ≡ (is_in s.left i && not (p == i))) [
    | inl e ↦ sym (ap (is_in (slice_set s.left p false)) e) ∙ not_left n
        ∙ sym (ap (λ b. is_in s.left i && not b) (eq-eqb p i e) ∙ never (is_in s.left i))
    | inr differs ↦ other_left i differs
        ∙ sym (ap (λ b. is_in s.left i && not b) (ne_eqb p i differs) ∙ always (is_in s.left i))
  ]
    where
      never : (b : Bool) → (b && false) ≡ false
      never true = refl
      never false = refl

      always : (b : Bool) → (b && true) ≡ b
      always true = refl
      always false = refl

  pub left_none : is_in s.left p ≡ false → (i : ℕ) → is_in s.left i ≡ (is_in s.left i && not (p == i))
  left_none out i = elim (cases_eq p i) as (λ _. is_in s.left i ≡ (is_in s.left i && not (p == i))) [
    | inl e ↦ (let o : is_in s.left i ≡ false = sym (ap (is_in s.left) e) ∙ out in
        o ∙ sym (ap (λ b. b && not (p == i)) o))
    | inr differs ↦ sym (ap (λ b. is_in s.left i && not b) (ne_eqb p i differs) ∙ always (is_in s.left i))
  ]
    where
      always : (b : Bool) → (b && true) ≡ b
      always true = refl
      always false = refl

-- ---- the heap is looked through

bound_of : (xs : List (Reverse ℕ)) (x y : Reverse ℕ) → IsUpperBound least_first x xs → Contains xs y → x.0 ≤ y.0
bound_of [] x y b c = absurd (no_member y c)
bound_of (z ∷ zs) x y b c = elim (cases z y zs c) as (λ _. x.0 ≤ y.0) [
  | inl is ↦ subst (λ (w : Reverse ℕ). x.0 ≤ w.0) is (not_less z.0 x.0 b.0)
  | inr later ↦ bound_of zs x y b.1 later
]
  where
    not_less : (a c : ℕ) → is_lt (nat_cmp a c) ≡ false → c ≤ a
    not_less a c h = ge_from_not_lt a c h

module _ (es : List Entries) (s : Remaining) (r : IsRemaining es nothing_owed s) where
  pub is_next : (x : Reverse ℕ) → Contains s.ready x → IsUpperBound least_first x s.ready → IsTrue (is_in s.left x.0)
      → IsTrue (is_in s.dead x.0) → IsNextUnreferred s x.0
  is_next x c b l d =
      let w = r.waits x c in
      record {
        place = (let n = r.places in let i = w.0 in omega arith);
        is_left = l;
        is_dead = d;
        unreferred = w.1;
        least =
            λ t h e f z. (let m = bound_of s.ready x (at t) b (r.complete t (let i = w.0 in omega arith) e f z) in
            omega (arith, h, m));
      }

  pub none_next : s.ready ≡ [] → NoneUnreferred s
  none_next empty t h d l z =
      no_member (at t) (subst (λ xs. Contains xs (at t)) empty (r.complete t (let n = r.places in omega arith) d l z))

  pub passed : (x : Reverse ℕ) (rest : List (Reverse ℕ)) → IsPermutation s.ready (x ∷ rest) → IsHeap least_first rest
      → (IsTrue (is_in s.dead x.0) → IsTrue (is_in s.left x.0) → ⊥)
      → IsRemaining es nothing_owed (record s { ready = rest })
  passed x rest moved ordered out = record {
    deads = r.deads;
    places = r.places;
    counts = r.counts;
    counted = r.counted;
    waits =
        λ y c. r.waits y (Contains-permutation (x ∷ rest) s.ready y (IsPermutation-sym _ _ moved) (behind x y rest c));
    complete =
        λ t h d l z. elim (cases x (at t) rest
        (Contains-permutation s.ready (x ∷ rest) (at t) moved (r.complete t h d l z))) as (λ _. Contains rest
        (at t)) [
          | inl is ↦ absurd (out (subst (λ (y : Reverse ℕ). IsTrue (is_in s.dead y.0)) (sym is) d)
              (subst (λ (y : Reverse ℕ). IsTrue (is_in s.left y.0)) (sym is) l))
          | inr later ↦ later
        ];
    ordered = ordered;
  }

-- what a pop took is what was on top
pub popped : (items rest : List (Reverse ℕ)) (top : Reverse ℕ) (o : Option (Reverse ℕ)) → IsSome o
    → IfSome o (λ x. x ≡ get_or items 0 x) → IfSome o (λ x. IsPermutation items (x ∷ rest))
    → IfSome o (λ x. PopsGreatest least_first items x rest) → 0 < length items → top ≡ get_or items 0 top
    → IsHeap least_first items → IsPermutation items (top ∷ rest) × IsHeap least_first rest
popped items rest top None none a b c h t heap = absurd (false≢true none)
popped items rest top (Some y) some a b c h t heap = (
  subst (λ x. IsPermutation items (x ∷ rest)) (a ∙ get_or_default items 0 y top h ∙ sym t) b,
  (c heap).0,
)
