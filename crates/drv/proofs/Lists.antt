-- A list that is read is one that is written, and what is written is read.
use Rattle.std.proofs.Common.{◌≡◌, ℕ, zero, suc, ◌<◌, ◌≤◌, List, [], ◌∷◌, ◌++◌, length, map, Option, Some, None, refl}
use Rattle.std.proofs.Common.{sym, ap, subst, ◌∙◌, append_assoc, arith, inl, inr, ◌⊎◌}
use Rattle.std.specs.List.{flat_map, AllZip}
use Rattle.std.proofs.lemmas.List.{length-append}
use Rattle.std.proofs.lemmas.Option.{some_pair_parts}
use Rattle.drv.specs.Derivation.{commas, list}
use Rattle.drv.specs.Reading.{◌>>=◌, after, closed_or, with_item, rest_of_items, list_at, list_end, without_value}
use Rattle.drv.proofs.Steps.{bind_some, bind_same, after_is, Reads, Skips, Skips-rest_of, Reads-without_value}

-- what is written isn't empty and doesn't begin with a closing bracket
abbrev pub Opens : {X : Type 0} → (X → List ℕ) → Type 0
Opens {X} spell = (x : X) (rest : List ℕ) → after 93 (spell x ++ rest) ≡ None

-- items with a comma before each
abbrev pub others : List (List ℕ) → List ℕ
others parts = flat_map (λ p. 44 ∷ p) parts

closed_cases : {A : Type 0} (o : Option (List ℕ)) (read : Option (List A × List ℕ)) (y : List A) (rest : List ℕ)
    → closed_or o read ≡ Some (y, rest)
    → ((o ≡ Some rest) × (y ≡ [])) ⊎ ((o ≡ None) × (read ≡ Some (y, rest)))
closed_cases {A} (Some r) read y rest e =
    let parts : ([] ≡ y) × (r ≡ rest) = some_pair_parts [] y r rest e in
    inl (ap (λ (u : List ℕ). Some u) parts.1, sym parts.0)
closed_cases None read y rest e = inr (refl, e)

with_item_some : {A : Type 0} (x : A) (o : Option (List A × List ℕ)) (y : List A) (rest : List ℕ)
    → with_item x o ≡ Some (y, rest) → (ys : List A) × (o ≡ Some (ys, rest)) × (x ∷ ys ≡ y)
with_item_some x (Some z) y rest e =
    let parts : (x ∷ z.0 ≡ y) × (z.1 ≡ rest) = some_pair_parts (x ∷ z.0) y z.1 rest e in
    (z.0, ap (λ (r : List ℕ). Some (z.0, r)) parts.1, parts.0)
with_item_some x None y rest e = absurd cc

-- an item takes a byte at least
empty_text : (s : List ℕ) → length s ≡ 0 → s ≡ []
empty_text [] e = refl
empty_text (b ∷ s) e = absurd (omega arith)

long : {X : Type 0} (spell : X → List ℕ) → Opens spell → (x : X) → 0 < length (spell x)
long spell opens x =
    elim (Rattle.std.proofs.lemmas.Bool.cases_lt 0 (length (spell x))) [
      | inl lt ↦ lt
      | inr le ↦
          let none = opens x (93 ∷ []) in
          let is : spell x ≡ [] = empty_text (spell x) (omega arith) in
          let some : after 93 (spell x ++ 93 ∷ []) ≡ Some [] = ap (λ (s : List ℕ). after 93 (s ++ 93 ∷ [])) is in
          absurd cc
    ]

pub shrinks : {X Y : Type 0} (item : List ℕ → Option (Y × List ℕ)) (spell : X → List ℕ) (Means : X → Y → Type 0)
    → Reads item spell Means → Opens spell
    → (t : List ℕ) (y : Y) (rest : List ℕ) → item t ≡ Some (y, rest) → length rest < length t
shrinks item spell Means reads opens t y rest e =
    let x = reads.takes t y rest e in
    let l = long spell opens x.0 in
    omega (arith, ap length x.2, length-append (spell x.0) rest)

-- ---- after the first item

more_again : {X Y : Type 0} (item : List ℕ → Option (Y × List ℕ)) (spell : X → List ℕ) (Means : X → Y → Type 0)
    → Reads item spell Means → Opens spell
    → (count : ℕ) (xs : List X) (ys : List Y) (rest : List ℕ) → AllZip Means xs ys
    → length (others (map spell xs) ++ 93 ∷ rest) ≤ count
    → rest_of_items item count (others (map spell xs) ++ 93 ∷ rest) ≡ Some (ys, rest)
unfolding rest_of_items
more_again item spell Means reads opens zero [] [] rest m fits = absurd (omega arith)
more_again item spell Means reads opens (suc count) [] [] rest m fits = refl
more_again item spell Means reads opens count [] (y ∷ ys) rest m fits = absurd m
more_again item spell Means reads opens count (x ∷ xs) [] rest m fits = absurd m
more_again item spell Means reads opens zero (x ∷ xs) (y ∷ ys) rest m fits = absurd (omega arith)
more_again {Y = Y} item spell Means reads opens (suc count) (x ∷ xs) (y ∷ ys) rest m fits =
    let tail = others (map spell xs) ++ 93 ∷ rest in
    let is : spell x ++ others (map spell xs) ++ 93 ∷ rest ≡ spell x ++ (others (map spell xs) ++ 93 ∷ rest) =
    append_assoc (spell x) (others (map spell xs)) (93 ∷ rest) in
    let len = length-append (spell x) tail in
    let same = ap length is in
    let below : length tail ≤ count = omega arith in
    let next = more_again item spell Means reads opens count xs ys rest m.1 below in
    let one : item (spell x ++ others (map spell xs) ++ 93 ∷ rest) ≡ Some (y, tail) =
    ap item is ∙ reads.again x y tail m.0 in
    ap (λ (o : Option (Y × List ℕ)). o >>= λ z. with_item z.0 (rest_of_items item count z.1)) one
    ∙ ap (with_item y) next

abbrev MoreItems : {X Y : Type 0} → (X → List ℕ) → (X → Y → Type 0) → List ℕ → List Y → List ℕ → Type 0
MoreItems {X} spell Means t ys rest = (xs : List X) × AllZip Means xs ys × (t ≡ others (map spell xs) ++ 93 ∷ rest)

more_takes : {X Y : Type 0} (item : List ℕ → Option (Y × List ℕ)) (spell : X → List ℕ) (Means : X → Y → Type 0)
    → Reads item spell Means
    → (count : ℕ) (t : List ℕ) (ys : List Y) (rest : List ℕ) → rest_of_items item count t ≡ Some (ys, rest)
    → MoreItems spell Means t ys rest
unfolding rest_of_items
more_takes item spell Means reads zero t ys rest e = absurd cc
more_takes item spell Means reads (suc count) t ys rest e =
    elim (closed_cases (after 93 t) (after 44 t >>= λ u. item u >>= λ x. with_item x.0 (rest_of_items item count x.1))
    ys rest e) [
      | inl h ↦ ([], subst (λ zs. AllZip Means [] zs) (sym h.1) tt, after_is 93 t rest h.0)
      | inr h ↦
          let u =
          bind_some (after 44 t) (λ u. item u >>= λ x. with_item x.0 (rest_of_items item count x.1)) (ys, rest)
          h.1 in
          let y = bind_some (item u.0) (λ x. with_item x.0 (rest_of_items item count x.1)) (ys, rest) u.2 in
          let more = with_item_some y.0.0 (rest_of_items item count y.0.1) ys rest y.2 in
          let x = reads.takes u.0 y.0.0 y.0.1 y.1 in
          let xs = more_takes item spell Means reads count y.0.1 more.0 rest more.1 in (
            x.0 ∷ xs.0,
            subst (λ zs. AllZip Means (x.0 ∷ xs.0) zs) more.2 (x.1, xs.1),
            after_is 44 t u.0 u.1 ∙ ap (λ (r : List ℕ). 44 ∷ r)
                (x.2 ∙ ap (λ (r : List ℕ). spell x.0 ++ r) xs.2
                ∙ sym (append_assoc (spell x.0) (others (map spell xs.0)) (93 ∷ rest))),
          )
    ]

-- any count that isn't too small gives the same
pub enough : {X Y : Type 0} (item : List ℕ → Option (Y × List ℕ)) (spell : X → List ℕ) (Means : X → Y → Type 0)
    → Reads item spell Means → Opens spell
    → (m n : ℕ) (t : List ℕ) → length t ≤ m → length t ≤ n → rest_of_items item m t ≡ rest_of_items item n t
unfolding rest_of_items
enough item spell Means reads opens zero zero t le le' = refl
enough item spell Means reads opens zero (suc n) [] le le' = refl
enough item spell Means reads opens zero (suc n) (b ∷ t) le le' = absurd (omega arith)
enough item spell Means reads opens (suc m) zero [] le le' = refl
enough item spell Means reads opens (suc m) zero (b ∷ t) le le' = absurd (omega arith)
enough {Y = Y} item spell Means reads opens (suc m) (suc n) t le le' =
    ap (λ o. closed_or (after 93 t) o)
    (bind_same (after 44 t) (λ u. item u >>= λ x. with_item x.0 (rest_of_items item m x.1))
    (λ u. item u >>= λ x. with_item x.0 (rest_of_items item n x.1))
    (λ u e. bind_same (item u) (λ x. with_item x.0 (rest_of_items item m x.1))
    (λ x. with_item x.0 (rest_of_items item n x.1))
    (λ x f.
    let one = ap length (after_is 44 t u e) in
    let two = shrinks item spell Means reads opens u x.0 x.1 f in
    ap (with_item x.0) (enough item spell Means reads opens m n x.1 (omega arith) (omega arith)))))

-- ---- the whole list

list_again : {X Y : Type 0} (item : List ℕ → Option (Y × List ℕ)) (spell : X → List ℕ) (Means : X → Y → Type 0)
    → Reads item spell Means → Opens spell
    → (xs : List X) (ys : List Y) (rest : List ℕ) → AllZip Means xs ys
    → list_at item (list (map spell xs) ++ rest) ≡ Some (ys, rest)
unfolding list_at list commas
list_again item spell Means reads opens [] [] rest m = refl
list_again item spell Means reads opens [] (y ∷ ys) rest m = absurd m
list_again item spell Means reads opens (x ∷ xs) [] rest m = absurd m
list_again {Y = Y} item spell Means reads opens (x ∷ xs) (y ∷ ys) rest m =
    let tail = others (map spell xs) ++ 93 ∷ rest in
    let is : spell x ++ others (map spell xs) ++ 93 ∷ [] ++ rest ≡ spell x ++ tail =
    append_assoc (spell x ++ others (map spell xs)) (93 ∷ []) rest
    ∙ append_assoc (spell x) (others (map spell xs)) (93 ∷ rest) in
    let one : item (spell x ++ tail) ≡ Some (y, tail) = reads.again x y tail m.0 in
    let more = more_again item spell Means reads opens (length tail) xs ys rest m.1 (omega arith) in
    ap (λ (t : List ℕ). closed_or (after 93 t) (item t >>= λ z. with_item z.0 (rest_of_items item (length z.1) z.1))) is
    ∙ ap (λ (o : Option (List ℕ)). closed_or o
    (item (spell x ++ tail) >>= λ z. with_item z.0 (rest_of_items item (length z.1) z.1))) (opens x tail)
    ∙ ap (λ (o : Option (Y × List ℕ)). o >>= λ z. with_item z.0 (rest_of_items item (length z.1) z.1)) one
    ∙ ap (with_item y) more

list_takes : {X Y : Type 0} (item : List ℕ → Option (Y × List ℕ)) (spell : X → List ℕ) (Means : X → Y → Type 0)
    → Reads item spell Means
    → (t : List ℕ) (ys : List Y) (rest : List ℕ) → list_at item t ≡ Some (ys, rest)
    → (xs : List X) × AllZip Means xs ys × (t ≡ list (map spell xs) ++ rest)
unfolding list_at list commas
list_takes item spell Means reads t ys rest e =
    let u =
    bind_some (after 91 t) (λ u. closed_or (after 93 u)
    (item u >>= λ x. with_item x.0 (rest_of_items item (length x.1) x.1))) (ys, rest) e in
    elim (closed_cases (after 93 u.0) (item u.0 >>= λ x. with_item x.0 (rest_of_items item (length x.1) x.1)) ys rest
    u.2) [
      | inl h ↦ (
        [],
        subst (λ zs. AllZip Means [] zs) (sym h.1) tt,
        after_is 91 t u.0 u.1 ∙ ap (λ (r : List ℕ). 91 ∷ r) (after_is 93 u.0 rest h.0),
      )
      | inr h ↦
          let y = bind_some (item u.0) (λ x. with_item x.0 (rest_of_items item (length x.1) x.1)) (ys, rest) h.1 in
          let more = with_item_some y.0.0 (rest_of_items item (length y.0.1) y.0.1) ys rest y.2 in
          let x = reads.takes u.0 y.0.0 y.0.1 y.1 in
          let xs = more_takes item spell Means reads (length y.0.1) y.0.1 more.0 rest more.1 in (
            x.0 ∷ xs.0,
            subst (λ zs. AllZip Means (x.0 ∷ xs.0) zs) more.2 (x.1, xs.1),
            after_is 91 t u.0 u.1 ∙ ap (λ (r : List ℕ). 91 ∷ r)
                (x.2 ∙ ap (λ (r : List ℕ). spell x.0 ++ r) xs.2
                ∙ sym (append_assoc (spell x.0) (others (map spell xs.0)) (93 ∷ rest))
                ∙ sym (append_assoc (spell x.0 ++ others (map spell xs.0)) (93 ∷ []) rest)),
          )
    ]

pub Reads-list : {X Y : Type 0} (item : List ℕ → Option (Y × List ℕ)) (spell : X → List ℕ) (Means : X → Y → Type 0)
    → Reads item spell Means → Opens spell
    → Reads (list_at item) (λ xs. list (map spell xs)) (AllZip Means)
Reads-list item spell Means reads opens = record {
  again = λ xs ys rest m. list_again item spell Means reads opens xs ys rest m;
  takes = λ t ys rest e. list_takes item spell Means reads t ys rest e;
}

units : {X : Type 0} → List X → List (Unit {0})
units [] = []
units (x ∷ xs) = tt ∷ units xs

all_units : {X : Type 0} (xs : List X) → AllZip (λ (x : X) (y : Unit {0}). Unit {0}) xs (units xs)
unfolding units
all_units [] = tt
all_units (x ∷ xs) = (tt, all_units xs)

pub Skips-list : {X : Type 0} (item : List ℕ → Option (List ℕ)) (spell : X → List ℕ) → Skips item spell → Opens spell
    → Skips (list_end item) (λ xs. list (map spell xs))
unfolding list_end
Skips-list item spell skips opens =
    Skips-rest_of (list_at (without_value item)) (λ xs. list (map spell xs)) (AllZip (λ x y. Unit {0}))
    (Reads-list (without_value item) spell (λ x y. Unit {0}) (Reads-without_value item spell skips) opens)
    (λ xs. (units xs, all_units xs))
