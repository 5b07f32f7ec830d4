-- Lists and flags of numbers, as they change.
use Rattle.std.proofs.Common.{◌≡◌, ℕ, ◌<◌, ◌≤◌, ◌+◌, ◌==◌, Bool, true, false, ◌&&◌, ◌||◌, not, List, [], ◌∷◌, ◌++◌}
use Rattle.std.proofs.Common.{length, get_or, map, set, refl, sym, ap, ◌∙◌, subst, inl, inr, arith}
use Rattle.std.specs.Prelude.{filter}
use Rattle.std.specs.List.{list_any}
use Rattle.std.proofs.lemmas.Bool.{cases_eq, cases_lt, eq-eqb, ne_eqb, eqb-true}
use Rattle.std.proofs.lemmas.List.{get_or-map, get_or-set_same, get_or-set_other, get_or_append_left, get_or_at}
use Rattle.std.proofs.lemmas.List.{get_or_past, length-map, length-set, length_push, map-set}
use Rattle.std.proofs.lemmas.List.Folds.{list_any-append}
use Rattle.std.proofs.lemmas.Map.Views.{any-filter_same}
use Rattle.tables_outline.specs.LinkLists.{flag_at, has, list_at}
use Rattle.tables_outline.proofs.Bools.{and_all, and_nothing, eqb_turned, or_nothing, turn_and}

-- ---- a number more in a list

pub pushed : (ls : List (List ℕ)) (b a : ℕ) (l : List ℕ) → b < length ls → l ≡ list_at ls b ++ a ∷ [] → (i x : ℕ)
    → has (set ls b l) i x ≡ (has ls i x || (i == b && x == a))
pushed ls b a l h e i x = elim (cases_eq i b) as (λ _. has (set ls b l) i x ≡ (has ls i x || (i == b && x == a))) [
  | inl same ↦
      subst (λ j. has (set ls b l) j x ≡ (has ls j x || (j == b && x == a))) (sym same)
      (ap (list_any (λ y. y == x)) (get_or-set_same ls b l [] h ∙ e)
      ∙ list_any-append (λ y. y == x) (list_at ls b) (a ∷ [])
      ∙ ap (λ t. has ls b x || t) (or_nothing (a == x) ∙ eqb_turned a x
      ∙ sym (ap (λ t. t && x == a) (eq-eqb b b refl))))
  | inr other ↦
      ap (list_any (λ y. y == x)) (get_or-set_other ls b i l [] other) ∙ sym (or_nothing (has ls i x))
      ∙ sym (ap (λ t. has ls i x || (t && x == a)) (ne_eqb i b other))
]

-- ---- fewer numbers in a list

without : (xs : List ℕ) (a x : ℕ)
    → list_any (λ y. y == x) (filter (λ y. not (y == a)) xs) ≡ (list_any (λ y. y == x) xs && not (x == a))
without xs a x =
    any-filter_same (λ (y : ℕ). y == x) (λ (y : ℕ). not (y == a)) (not (x == a))
    (λ y e. ap (λ z. not (z == a)) (eqb-true y x e)) xs
    ∙ turn_and (not (x == a)) (list_any (λ y. y == x) xs)

pub forgotten : (ls : List (List ℕ)) (b a : ℕ) (l : List ℕ) → b < length ls
    → l ≡ filter (λ y. not (y == a)) (list_at ls b) → (i x : ℕ)
    → has (set ls b l) i x ≡ (has ls i x && not (i == b && x == a))
forgotten ls b a l h e i x =
    elim (cases_eq i b) as (λ _. has (set ls b l) i x ≡ (has ls i x && not (i == b && x == a))) [
      | inl same ↦
          subst (λ j. has (set ls b l) j x ≡ (has ls j x && not (j == b && x == a))) (sym same)
          (ap (list_any (λ y. y == x)) (get_or-set_same ls b l [] h ∙ e) ∙ without (list_at ls b) a x
          ∙ ap (λ t. has ls b x && not (t && x == a)) (sym (eq-eqb b b refl)))
      | inr other ↦
          ap (list_any (λ y. y == x)) (get_or-set_other ls b i l [] other) ∙ sym (and_all (has ls i x) true refl)
          ∙ sym (ap (λ t. has ls i x && not (t && x == a)) (ne_eqb i b other))
    ]

-- a list that isn't there has nothing to forget
pub nothing_forgotten : (ls : List (List ℕ)) (b a : ℕ) → list_at ls b ≡ [] → (i x : ℕ)
    → has ls i x ≡ (has ls i x && not (i == b && x == a))
nothing_forgotten ls b a e i x = elim (cases_eq i b) as (λ _. has ls i x ≡ (has ls i x && not (i == b && x == a))) [
  | inl same ↦ (let none : has ls i x ≡ false = ap (has_at x) (ap (list_at ls) same ∙ e) in
      none ∙ sym (ap (λ t. t && not (i == b && x == a)) none))
  | inr other ↦ sym (ap (λ t. has ls i x && not (t && x == a)) (ne_eqb i b other) ∙ and_all (has ls i x) true refl)
]
  where
    has_at : ℕ → List ℕ → Bool
    has_at x xs = list_any (λ y. y == x) xs

-- the flagged of a list
pub flagged : (flags : List Bool) (xs : List ℕ) (x : ℕ)
    → list_any (λ y. y == x) (filter (λ y. flag_at flags y) xs) ≡ (list_any (λ y. y == x) xs && flag_at flags x)
flagged flags xs x =
    any-filter_same (λ (y : ℕ). y == x) (λ (y : ℕ). flag_at flags y) (flag_at flags x)
    (λ y e. ap (flag_at flags) (eqb-true y x e)) xs
    ∙ turn_and (flag_at flags x) (list_any (λ y. y == x) xs)

-- ---- room

pub room_push : (ls : List (List ℕ)) (l : List ℕ) → l ≡ [] → (i : ℕ) → list_at (ls ++ l ∷ []) i ≡ list_at ls i
room_push ls l e i = elim (cases_lt i (length ls)) as (λ _. list_at (ls ++ l ∷ []) i ≡ list_at ls i) [
  | inl lt ↦ get_or_append_left ls (l ∷ []) [] i lt
  | inr past ↦ elim (cases_eq i (length ls)) as (λ _. list_at (ls ++ l ∷ []) i ≡ list_at ls i) [
    | inl same ↦ get_or_at ls l [] [] i (sym same) ∙ e ∙ sym (get_or_past ls i [] past)
    | inr other ↦ get_or_past (ls ++ l ∷ []) i [] (let n = length_push ls l in omega (arith, n, past, other))
        ∙ sym (get_or_past ls i [] past)
  ]
]

pub flag_push : (fs : List Bool) (i : ℕ) → flag_at (fs ++ false ∷ []) i ≡ flag_at fs i
flag_push fs i = elim (cases_lt i (length fs)) as (λ _. flag_at (fs ++ false ∷ []) i ≡ flag_at fs i) [
  | inl lt ↦ get_or_append_left fs (false ∷ []) false i lt
  | inr past ↦ elim (cases_eq i (length fs)) as (λ _. flag_at (fs ++ false ∷ []) i ≡ flag_at fs i) [
    | inl same ↦ get_or_at fs false [] false i (sym same) ∙ sym (get_or_past fs i false past)
    | inr other ↦ get_or_past (fs ++ false ∷ []) i false (let n = length_push fs false in omega (arith, n, past, other))
        ∙ sym (get_or_past fs i false past)
  ]
]

-- ---- flags

pub flag_set : (fs : List Bool) (n : ℕ) → n < length fs → (i : ℕ) → flag_at (set fs n true) i ≡ (flag_at fs i || i == n)
flag_set fs n h i = elim (cases_eq i n) as (λ _. flag_at (set fs n true) i ≡ (flag_at fs i || i == n)) [
  | inl same ↦ ap (flag_at (set fs n true)) same ∙ get_or-set_same fs n true false h
      ∙ sym (ap (λ b. flag_at fs i || b) (eq-eqb i n same) ∙ or_true (flag_at fs i))
  | inr other ↦ get_or-set_other fs n i true false other
      ∙ sym (ap (λ b. flag_at fs i || b) (ne_eqb i n other) ∙ or_nothing (flag_at fs i))
]
  where
    or_true : (a : Bool) → (a || true) ≡ true
    or_true true = refl
    or_true false = refl

pub flag_cleared : (fs : List Bool) (n : ℕ) → n < length fs → (i : ℕ)
    → flag_at (set fs n false) i ≡ (flag_at fs i && not (i == n))
flag_cleared fs n h i = elim (cases_eq i n) as (λ _. flag_at (set fs n false) i ≡ (flag_at fs i && not (i == n))) [
  | inl same ↦ ap (flag_at (set fs n false)) same ∙ get_or-set_same fs n false false h
      ∙ sym (and_nothing (flag_at fs i) (not (i == n)) (ap not (eq-eqb i n same)))
  | inr other ↦ get_or-set_other fs n i false false other
      ∙ sym (and_all (flag_at fs i) (not (i == n)) (ap not (ne_eqb i n other)))
]

pub flag_beyond : (fs : List Bool) (n : ℕ) → length fs ≤ n → (i : ℕ) → flag_at fs i ≡ (flag_at fs i && not (i == n))
flag_beyond fs n past i = elim (cases_eq i n) as (λ _. flag_at fs i ≡ (flag_at fs i && not (i == n))) [
  | inl same ↦ (let none : flag_at fs i ≡ false = ap (flag_at fs) same ∙ get_or_past fs n false past in
      none ∙ sym (ap (λ b. b && not (i == n)) none))
  | inr other ↦ sym (and_all (flag_at fs i) (not (i == n)) (ap not (ne_eqb i n other)))
]

-- ---- lists in memory

module _ {X : Type 0} (f : X → List ℕ) (xs : List X) (n : ℕ) (v w : X) (h : n < length xs)
    (at : v ≡ get_or xs n v) where
  count : n < length (map f xs)
  count = (let l = length-map xs f in omega (arith, l, h))

  here : list_at (map f xs) n ≡ f v
  here = get_or-map f xs n v [] h ∙ ap f (sym at)

  is_set : map f (set xs n w) ≡ set (map f xs) n (f w)
  is_set = map-set f xs n w

  pub pushed_in : (a : ℕ) → f w ≡ f v ++ a ∷ [] → (i x : ℕ)
      → has (map f (set xs n w)) i x ≡ (has (map f xs) i x || (i == n && x == a))
  pushed_in a e i x =
      ap (λ ls. has ls i x) is_set ∙ pushed (map f xs) n a (f w) count (e ∙ ap (λ l. l ++ a ∷ []) (sym here)) i x

  pub forgotten_in : (a : ℕ) → f w ≡ filter (λ y. not (y == a)) (f v) → (i x : ℕ)
      → has (map f (set xs n w)) i x ≡ (has (map f xs) i x && not (i == n && x == a))
  forgotten_in a e i x =
      ap (λ ls. has ls i x) is_set ∙ forgotten (map f xs) n a (f w) count
      (e ∙ ap (filter (λ y. not (y == a))) (sym here)) i x

-- ---- flagged numbers of all lists

pub record AreKeptSo (flags : List Bool) (n : ℕ) (old new : List (List ℕ)) : Type 0 where
  pub count : length new ≡ length old
  pub done : (i : ℕ) → i < n → list_at new i ≡ filter (λ y. flag_at flags y) (list_at old i)
  pub left : (i : ℕ) → n ≤ i → list_at new i ≡ list_at old i

pub kept_begin : (flags : List Bool) (ls : List (List ℕ)) → AreKeptSo flags 0 ls ls
kept_begin flags ls = record { count = refl; done = λ i l. absurd (omega (arith, l)); left = λ i l. refl }

pub kept_more : {X : Type 0} (f : X → List ℕ) (flags : List Bool) (n : ℕ) (old : List (List ℕ)) (xs : List X) (v w : X)
    → n < length xs → v ≡ get_or xs n v → f w ≡ filter (λ y. flag_at flags y) (f v)
    → AreKeptSo flags n old (map f xs) → AreKeptSo flags (n + 1) old (map f (set xs n w))
kept_more f flags n old xs v w h at e so = subst (AreKeptSo flags (n + 1) old) (sym (is_set f xs n v w h at)) (record {
  count = length-set (map f xs) n (f w) ∙ so.count;
  done =
      λ i l. elim (cases_eq i n) as (λ _. list_at (set (map f xs) n (f w)) i
      ≡ filter (λ y. flag_at flags y) (list_at old i)) [
        | inl same ↦
            subst (λ j. list_at (set (map f xs) n (f w)) j ≡ filter (λ y. flag_at flags y) (list_at old j)) (sym same)
            (get_or-set_same (map f xs) n (f w) [] (count f xs n v w h at) ∙ e
            ∙ ap (filter (λ y. flag_at flags y)) (sym (here f xs n v w h at) ∙ so.left n (omega arith)))
        | inr other ↦ get_or-set_other (map f xs) n i (f w) [] other ∙ so.done i (omega (arith, l, other))
      ];
  left =
      λ i l. get_or-set_other (map f xs) n i (f w) [] (λ e. absurd (omega (arith, l, e)))
      ∙ so.left i (omega (arith, l));
})

pub kept_all : (flags : List Bool) (n : ℕ) (old new : List (List ℕ)) → length old ≤ n → AreKeptSo flags n old new
    → (i x : ℕ) → has new i x ≡ (has old i x && flag_at flags x)
kept_all flags n old new all so i x = elim (cases_lt i n) as (λ _. has new i x ≡ (has old i x && flag_at flags x)) [
  | inl lt ↦ ap (list_any (λ y. y == x)) (so.done i lt) ∙ flagged flags (list_at old i) x
  | inr past ↦ (
      let nothing : list_at old i ≡ [] = get_or_past old i [] (omega (arith, all, past)) in
      let none : has old i x ≡ false = ap (list_any (λ y. y == x)) nothing in
      ap (list_any (λ y. y == x)) (so.left i past) ∙ none ∙ sym (ap (λ b. b && flag_at flags x) none))
]
