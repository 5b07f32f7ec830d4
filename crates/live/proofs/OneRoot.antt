-- What becomes of the marks and of the waiting where places are reached from one root.
use Rattle.std.proofs.Common.{◌≡◌, ℕ, zero, suc, ◌+◌, ◌<◌, ◌≤◌, List, [], ◌∷◌, length, get_or, set, replicate, Bool}
use Rattle.std.proofs.Common.{true, false, cond, refl, sym, ap, ◌∙◌, subst, inl, inr, ◌⊎◌, arith}
use Rattle.std.specs.Prelude.{Contains, nat_lt, nat_le, if◌then◌else◌, count_by}
use Rattle.std.specs.List.{slice_index, slice_set}
use Rattle.std.proofs.lemmas.Bool.{ltb-true, ltb-false, le-leb, lt-leb, lt-ltb, le-ltb, cases_eq, cases_lt, cases_Bool}
use Rattle.std.proofs.lemmas.Bool.{false≢true}
use Rattle.std.proofs.lemmas.List.{length-set, get_or-set_same, get_or-set_other, get_or_past, get_or-replicate}
use Rattle.std.proofs.lemmas.List.{length-replicate}
use Rattle.std.proofs.lemmas.List.Elements.{Contains-append_left}
use Rattle.std.proofs.lemmas.List.Sums.{sum_by-set}
use Rattle.live.specs.Marks.{Frontier, IsDequeued, NoneWaits, Waits, reached, all_reached, marked_cost}
use Rattle.live.proofs.Members.{cases, no_member, at_head, behind}

-- the costs of what waits
abbrev pub waiting_cost : List ℕ → List Bool → ℕ
waiting_cost [] bs = 0
waiting_cost (w ∷ ws) [] = 0
waiting_cost (w ∷ ws) (b ∷ bs) = (if b then w else 0) + waiting_cost ws bs

-- how many wait
abbrev pub waiting_count : List Bool → ℕ
waiting_count bs = count_by (λ b. b) bs

pub waits_set : (bs : List Bool) (j : ℕ) → j < length bs → Waits (set bs j true) j
waits_set bs j h = get_or-set_same bs j true false h

pub waits_still : (bs : List Bool) (j i : ℕ) → j < length bs → Waits bs i → Waits (set bs j true) i
waits_still bs j i h w = elim (cases_eq i j) as (λ _. Waits (set bs j true) i) [
  | inl same ↦ subst (Waits (set bs j true)) (sym same) (waits_set bs j h)
  | inr other ↦ get_or-set_other bs j i true false other ∙ w
]

pub waits_other : (bs : List Bool) (b : Bool) (j i : ℕ) → (i ≡ j → ⊥) → Waits (set bs j b) i → Waits bs i
waits_other bs b j i other w = sym (get_or-set_other bs j i b false other) ∙ w

pub waits_else : (bs : List Bool) (b : Bool) (j i : ℕ) → (i ≡ j → ⊥) → Waits bs i → Waits (set bs j b) i
waits_else bs b j i other w = get_or-set_other bs j i b false other ∙ w

pub waits_inside : (bs : List Bool) (i : ℕ) → Waits bs i → i < length bs
waits_inside bs i w = elim (cases_lt i (length bs)) as (λ _. i < length bs) [
  | inl below ↦ below
  | inr past ↦ absurd (false≢true (sym (get_or_past bs i false past) ∙ w))
]

pub none_waits : (n : ℕ) → NoneWaits (replicate n false)
none_waits n i w =
    false≢true (sym (get_or-replicate n i false false
    (let b = waits_inside (replicate n false) i w in let l = length-replicate n false in omega arith)) ∙ w)

-- one more or one less waits
pub waiting_set : (ws : List ℕ) (bs : List Bool) (j : ℕ) (b : Bool) → length ws ≡ length bs → j < length bs
    → waiting_cost ws (set bs j b) + (if get_or bs j false then get_or ws j 0 else 0)
    ≡ waiting_cost ws bs + (if b then get_or ws j 0 else 0)
waiting_set [] [] j b n h = absurd (omega arith)
waiting_set [] (x ∷ bs) j b n h = absurd (omega arith)
waiting_set (w ∷ ws) [] j b n h = absurd (omega arith)
waiting_set (w ∷ ws) (x ∷ bs) zero b n h = omega arith
waiting_set (w ∷ ws) (x ∷ bs) (suc j) b n h = let rest =
    waiting_set ws bs j b (omega arith) (omega arith) in omega (arith, rest)

pub nothing_costs : (ws : List ℕ) (bs : List Bool) → NoneWaits bs → waiting_cost ws bs ≡ 0
nothing_costs [] bs none = refl
nothing_costs (w ∷ ws) [] none = refl
nothing_costs (w ∷ ws) (true ∷ bs) none = absurd (none 0 refl)
nothing_costs (w ∷ ws) (false ∷ bs) none = let rest = nothing_costs ws bs (λ i h. none (suc i) h) in omega (arith, rest)

-- what is taken no longer costs
module _ (old new : List Bool) (place : ℕ) (t : IsDequeued old new place) where
  pub consumed_costs : (ws : List ℕ) → length ws ≡ length old
      → waiting_cost ws old ≡ waiting_cost ws new + get_or ws place 0
  consumed_costs ws n =
      let h = waits_inside old place t.waited in
      let s = waiting_set ws old place false n h in
      let e : ◌≡◌ {A = ℕ} (if get_or old place false then get_or ws place 0 else 0) (get_or ws place 0) =
      ap (λ (b : Bool). if b then get_or ws place 0 else 0) t.waited in
      let l = ap (waiting_cost ws) t.left in
      omega (arith, s, e, l)

  pub consumed_counts : waiting_count old ≡ waiting_count new + 1
  consumed_counts =
      let h = waits_inside old place t.waited in
      let s = sum_by-set (λ (b : Bool). cond b 1 0) old place false false h in
      let e : ◌≡◌ {A = ℕ} (cond (get_or old place false) 1 0) 1 = ap (λ (b : Bool). cond b 1 0) t.waited in
      let l = ap waiting_count t.left in
      omega (arith, s, e, l)

  pub consumed_still : (i : ℕ) → Waits new i → Waits old i
  consumed_still i w = elim (cases_eq i place) as (λ _. Waits old i) [
    | inl same ↦ subst (Waits old) (sym same) t.waited
    | inr other ↦ waits_other old false place i other (subst (λ (bs : List Bool). Waits bs i) t.left w)
  ]

  pub consumed_or_waits : (i : ℕ) → Waits old i → (i ≡ place) ⊎ Waits new i
  consumed_or_waits i w = elim (cases_eq i place) as (λ _. (i ≡ place) ⊎ Waits new i) [
    | inl same ↦ inl same
    | inr other ↦ inr (subst (λ (bs : List Bool). Waits bs i) (sym t.left) (waits_else old false place i other w))
  ]

  pub consumed_length : length new ≡ length old
  consumed_length = ap length t.left ∙ length-set old place false

-- the mark of a place
abbrev pub mark_at : Frontier → ℕ → ℕ
mark_at f i = slice_index f.first i

-- a place that is marked now, was not, is one of those reached, and waits
pub record IsNew (none root : ℕ) (f g : Frontier) (js : List ℕ) (i : ℕ) : Type 0 where
  pub was : none ≤ mark_at f i
  pub is : mark_at g i ≡ root
  pub waits : Waits g.waiting i
  pub among : Contains js i

-- what waits is marked
pub record AreMarked (none : ℕ) (f : Frontier) : Type 0 where
  pub count : length f.waiting ≡ length f.first
  pub marked : (i : ℕ) → Waits f.waiting i → mark_at f i < none

-- the second prefix comes from the first where these places are reached
pub record Grows (none root : ℕ) (f g : Frontier) (js : List ℕ) : Type 0 where
  pub places : length g.first ≡ length f.first
  pub fits : AreMarked none g
  pub either : (i : ℕ) → (mark_at g i ≡ mark_at f i) ⊎ IsNew none root f g js i
  pub marked : (j : ℕ) → Contains js j → mark_at g j < none
  pub old : (i : ℕ) → Waits f.waiting i → Waits g.waiting i
  pub new : (i : ℕ) → Waits g.waiting i → Waits f.waiting i ⊎ IsNew none root f g js i
  -- what the marked cost, less what the waiting cost, stays
  pub spent : (ws : List ℕ) → length ws ≡ length f.first
      → waiting_cost ws g.waiting + marked_cost none ws f.first
      ≡ waiting_cost ws f.waiting + marked_cost none ws g.first
  pub waiting : count_by (λ m. nat_le none m) g.first + waiting_count g.waiting
      ≡ count_by (λ m. nat_le none m) f.first + waiting_count f.waiting

-- places are within the marks
abbrev pub Inside : Frontier → List ℕ → Type 0
Inside f js = (j : ℕ) → Contains js j → j < length f.first

le-true : (a b : ℕ) → a ≤ b → nat_le a b ≡ true
le-true a b h = le-leb a b h

le-false : (a b : ℕ) → b < a → nat_le a b ≡ false
le-false a b h = lt-leb a b h

-- one more mark costs its weight
marked_set : (none root : ℕ) → root < none → (ws ms : List ℕ) (j : ℕ) → length ws ≡ length ms → j < length ms
    → none ≤ get_or ms j 0 → marked_cost none ws (set ms j root) ≡ marked_cost none ws ms + get_or ws j 0
marked_set none root below [] [] j n h free = omega arith
marked_set none root below [] (m ∷ ms) j n h free = omega arith
marked_set none root below (w ∷ ws) [] j n h free = omega arith
marked_set none root below (w ∷ ws) (m ∷ ms) zero n h free =
    let is : ◌≡◌ {A = ℕ} (if nat_lt root none then w else 0) w =
    ap (λ (b : Bool). if b then w else 0) (lt-ltb root none below) in
    let was : ◌≡◌ {A = ℕ} (if nat_lt m none then w else 0) 0 =
    ap (λ (b : Bool). if b then w else 0) (le-ltb m none free) in
    omega (arith, is, was)
marked_set none root below (w ∷ ws) (m ∷ ms) (suc j) n h free =
    let rest = marked_set none root below ws ms j (omega arith) (omega arith) free in omega (arith, rest)

module _ (none root : ℕ) (below : root < none) where
  pub one : (f : Frontier) (j : ℕ) → AreMarked none f → j < length f.first
      → Grows none root f (reached none root f j) (j ∷ [])
  one f j are h = by (nat_lt (mark_at f j) none) refl
    where
      marks : Frontier
      marks = record { first = slice_set f.first j root; waiting = slice_set f.waiting j true }

      by : (b : Bool) → nat_lt (mark_at f j) none ≡ b
          → Grows none root f (if b then f
          else (record { first = slice_set f.first j root; waiting = slice_set f.waiting j true })) (j ∷ [])
      by true e = record {
        places = refl;
        fits = are;
        either = λ i. inl refl;
        marked = λ i c. elim (cases j i [] c) as (λ _. mark_at f i < none) [
          | inl same ↦ subst (λ k. mark_at f k < none) same (ltb-true (mark_at f j) none e)
          | inr none_of ↦ absurd (no_member i none_of)
        ];
        old = λ i c. c;
        new = λ i c. inl c;
        spent = λ ws n. refl;
        waiting = refl;
      }
      by false e = record {
        places = length-set f.first j root;
        fits = record {
          count = length-set f.waiting j true ∙ are.count ∙ sym (length-set f.first j root);
          marked = λ i w. elim (cases_eq i j) as (λ _. get_or (set f.first j root) i 0 < none) [
            | inl same ↦ subst (λ k. get_or (set f.first j root) k 0 < none) (sym same) here
            | inr other ↦ (let m = are.marked i (waits_other f.waiting true j i other w) in
                let g = get_or-set_other f.first j i root 0 other in omega arith)
          ];
        };
        either =
            λ i. elim (cases_eq i j) as (λ _. (get_or (set f.first j root) i 0 ≡ mark_at f i)
            ⊎ IsNew none root f (record { first = slice_set f.first j root; waiting = slice_set f.waiting j true })
            (j ∷ []) i) [
              | inl same ↦ inr (fresh i same)
              | inr other ↦ inl (get_or-set_other f.first j i root 0 other)
            ];
        marked = λ i c. elim (cases j i [] c) as (λ _. get_or (set f.first j root) i 0 < none) [
          | inl same ↦ subst (λ k. get_or (set f.first j root) k 0 < none) same here
          | inr none_of ↦ absurd (no_member i none_of)
        ];
        old = λ i c. waits_still f.waiting j i inside c;
        new =
            λ i c. elim (cases_eq i j) as (λ _. Waits f.waiting i
            ⊎ IsNew none root f (record { first = slice_set f.first j root; waiting = slice_set f.waiting j true })
            (j ∷ []) i) [
              | inl same ↦ inr (fresh i same)
              | inr other ↦ inl (waits_other f.waiting true j i other c)
            ];
        spent = spends;
        waiting = counts;
      }
        where
          free : none ≤ mark_at f j
          free = ltb-false (mark_at f j) none e

          inside : j < length f.waiting
          inside = omega (arith, are.count)

          here : get_or (set f.first j root) j 0 < none
          here = let g = get_or-set_same f.first j root 0 h in omega arith

          quiet : get_or f.waiting j false ≡ false
          quiet = elim (cases_Bool (get_or f.waiting j false)) as (λ _. get_or f.waiting j false ≡ false) [
            | inl waits ↦ absurd (let m = are.marked j waits in omega (arith, free))
            | inr is ↦ is
          ]

          fresh : (i : ℕ) → i ≡ j → IsNew none root f
              (record { first = slice_set f.first j root; waiting = slice_set f.waiting j true }) (j ∷ []) i
          fresh i same =
              subst (λ k. IsNew none root f
              (record { first = slice_set f.first j root; waiting = slice_set f.waiting j true }) (j ∷ []) k)
              (sym same)
              (record {
                was = free;
                is = get_or-set_same f.first j root 0 h;
                waits = waits_set f.waiting j inside;
                among = at_head j [];
              })

          spends : (ws : List ℕ) → length ws ≡ length f.first
              → waiting_cost ws (set f.waiting j true) + marked_cost none ws f.first
              ≡ waiting_cost ws f.waiting + marked_cost none ws (set f.first j root)
          spends ws n =
              let s = waiting_set ws f.waiting j true (n ∙ sym are.count) inside in
              let q : ◌≡◌ {A = ℕ} (if get_or f.waiting j false then get_or ws j 0 else 0) 0 =
              ap (λ (b : Bool). if b then get_or ws j 0 else 0) quiet in
              omega (arith, s, q, marked_set none root below ws f.first j n h free)

          counts : count_by (λ m. nat_le none m) (set f.first j root) + waiting_count (set f.waiting j true)
              ≡ count_by (λ m. nat_le none m) f.first + waiting_count f.waiting
          counts =
              let all = sum_by-set (λ m. cond (nat_le none m) 1 0) f.first j root 0 h in
              let was : ◌≡◌ {A = ℕ} (cond (nat_le none (get_or f.first j 0)) 1 0) 1 =
              ap (λ b. cond b 1 0) (le-true none (get_or f.first j 0) free) in
              let is : ◌≡◌ {A = ℕ} (cond (nat_le none root) 1 0) 0 = ap (λ b. cond b 1 0) (le-false none root below) in
              let more = sum_by-set (λ (b : Bool). cond b 1 0) f.waiting j true false inside in
              let not : ◌≡◌ {A = ℕ} (cond (get_or f.waiting j false) 1 0) 0 = ap (λ (b : Bool). cond b 1 0) quiet in
              omega (arith, all, was, is, more, not)

  then_more : (f g h : Frontier) (j : ℕ) (js : List ℕ) → Grows none root f g (j ∷ []) → Grows none root g h js
      → Grows none root f h (j ∷ js)
  then_more f g h j js a b = record {
    places = b.places ∙ a.places;
    fits = b.fits;
    either = λ i. elim (b.either i) as (λ _. (mark_at h i ≡ mark_at f i) ⊎ IsNew none root f h (j ∷ js) i) [
      | inl same ↦ elim (a.either i) as (λ _. (mark_at h i ≡ mark_at f i) ⊎ IsNew none root f h (j ∷ js) i) [
        | inl was ↦ inl (same ∙ was)
        | inr new ↦ inr (first_new i new same)
      ]
      | inr new ↦ inr (later_new i new)
    ];
    marked = λ i c. elim (cases j i js c) as (λ _. mark_at h i < none) [
      | inl same ↦ still i (a.marked i (subst (λ k. Contains (j ∷ []) k) same (at_head j [])))
      | inr later ↦ b.marked i later
    ];
    old = λ i c. b.old i (a.old i c);
    new = λ i c. elim (b.new i c) as (λ _. Waits f.waiting i ⊎ IsNew none root f h (j ∷ js) i) [
      | inl in_g ↦ elim (a.new i in_g) as (λ _. Waits f.waiting i ⊎ IsNew none root f h (j ∷ js) i) [
        | inl was ↦ inl was
        | inr new ↦ inr (by_either i new)
      ]
      | inr new ↦ inr (later_new i new)
    ];
    spent = λ ws n. (let later = b.spent ws (n ∙ sym a.places) in let first = a.spent ws n in omega arith);
    waiting = b.waiting ∙ a.waiting;
  }
    where
      first_new : (i : ℕ) → IsNew none root f g (j ∷ []) i → mark_at h i ≡ mark_at g i → IsNew none root f h (j ∷ js) i
      first_new i new same =
          record {
            was = new.was;
            is = same ∙ new.is;
            waits = b.old i new.waits;
            among = Contains-append_left (j ∷ []) js i new.among;
          }

      later_new : (i : ℕ) → IsNew none root g h js i → IsNew none root f h (j ∷ js) i
      later_new i new = record {
        was =
            elim (a.either i) as (λ _. none ≤ mark_at f i) [
              | inl same ↦ (let w = new.was in omega arith)
              | inr first ↦ first.was
            ];
        is = new.is;
        waits = new.waits;
        among = behind j i js new.among;
      }

      by_either : (i : ℕ) → IsNew none root f g (j ∷ []) i → IsNew none root f h (j ∷ js) i
      by_either i new = elim (b.either i) as (λ _. IsNew none root f h (j ∷ js) i) [
        | inl same ↦ first_new i new same
        | inr later ↦ later_new i later
      ]

      still : (i : ℕ) → mark_at g i < none → mark_at h i < none
      still i m =
          elim (b.either i) as (λ _. mark_at h i < none) [
            | inl same ↦ omega arith
            | inr new ↦ (let e = new.is in omega arith)
          ]

  pub grows : (f : Frontier) (js : List ℕ) → AreMarked none f → Inside f js
      → Grows none root f (all_reached none root f js) js
  grows f [] are h = record {
    places = refl;
    fits = are;
    either = λ i. inl refl;
    marked = λ i c. absurd (no_member i c);
    old = λ i c. c;
    new = λ i c. inl c;
    spent = λ ws n. refl;
    waiting = refl;
  }
  grows f (j ∷ js) are h =
      let first = one f j are (h j (at_head j js)) in
      then_more f (reached none root f j) (all_reached none root (reached none root f j) js) j js first
      (grows (reached none root f j) js first.fits
      (λ i c. subst (λ n. i < n) (sym first.places) (h i (behind j i js c))))
