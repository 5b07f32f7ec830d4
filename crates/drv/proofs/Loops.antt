-- The steps of a loop over the items of a list.
use Rattle.std.proofs.Common.{◌≡◌, ℕ, ◌<◌, List, [], ◌∷◌, ◌++◌, length, Option, Some, None, refl, sym, ap, ◌∙◌}
use Rattle.std.proofs.Common.{append_assoc, arith}
use Rattle.std.proofs.lemmas.List.{append-nil}
use Rattle.drv.specs.Written.{string}
use Rattle.drv.specs.Reading.{◌>>=◌, after, rest_of, bare, closed_or, with_item, with_items, rest_of_items}
use Rattle.drv.specs.Reading.{without_value, string_end}
use Rattle.drv.proofs.Steps.{after_is, Reads, Skips, Reads-without_value}
use Rattle.drv.proofs.Lists.{Opens, shrinks, enough}
use Rattle.drv.proofs.Strings.{string_skips}

-- ---- with items

-- the bracket that closes
pub more_closed : {Y : Type 0} (item : List ℕ → Option (Y × List ℕ)) (t end : List ℕ) → after 93 t ≡ Some end
    → rest_of_items item (length t) t ≡ Some ([], end)
unfolding rest_of_items
more_closed item [] end e = absurd cc
more_closed item (b ∷ t) end e =
    ap (λ o. closed_or o (after 44 (b ∷ t) >>= λ u. item u >>= λ x. with_item x.0 (rest_of_items item (length t) x.1)))
    e

-- neither it nor a comma
pub more_stops : {Y : Type 0} (item : List ℕ → Option (Y × List ℕ)) (t : List ℕ) → after 93 t ≡ None → after 44 t ≡ None
    → rest_of_items item (length t) t ≡ None
unfolding rest_of_items
more_stops item [] e f = refl
more_stops {Y = Y} item (b ∷ t) e f =
    let step : Option (List ℕ) → Option (List Y × List ℕ) =
    λ o. o >>= λ u. item u >>= λ x. with_item x.0 (rest_of_items item (length t) x.1) in
    ap (λ o. closed_or o (step (after 44 (b ∷ t)))) e ∙ ap step f

-- a comma and no item
pub more_fails : {Y : Type 0} (item : List ℕ → Option (Y × List ℕ)) (t u : List ℕ) → after 93 t ≡ None
    → after 44 t ≡ Some u → item u ≡ None → rest_of_items item (length t) t ≡ None
unfolding rest_of_items
more_fails item [] u e f g = refl
more_fails {Y = Y} item (b ∷ t) u e f g =
    let step : Option (List ℕ) → Option (List Y × List ℕ) =
    λ o. o >>= λ u. item u >>= λ x. with_item x.0 (rest_of_items item (length t) x.1) in
    ap (λ o. closed_or o (step (after 44 (b ∷ t)))) e ∙ ap step f
    ∙ ap (λ (o : Option (Y × List ℕ)). o >>= λ x. with_item x.0 (rest_of_items item (length t) x.1)) g

-- a comma and an item
pub more_goes_on : {X Y : Type 0} (item : List ℕ → Option (Y × List ℕ)) (spell : X → List ℕ) (Means : X → Y → Type 0)
    → Reads item spell Means → Opens spell
    → (t u : List ℕ) (y : Y) (rest : List ℕ) → after 93 t ≡ None → after 44 t ≡ Some u → item u ≡ Some (y, rest)
    → rest_of_items item (length t) t ≡ with_item y (rest_of_items item (length rest) rest)
unfolding rest_of_items
more_goes_on item spell Means reads opens [] u y rest e f g = absurd cc
more_goes_on {Y = Y} item spell Means reads opens (b ∷ t) u y rest e f g =
    let step : Option (List ℕ) → Option (List Y × List ℕ) =
    λ o. o >>= λ u. item u >>= λ x. with_item x.0 (rest_of_items item (length t) x.1) in
    let shorter = shrinks item spell Means reads opens u y rest g in
    let whole = ap length (after_is 44 (b ∷ t) u f) in
    ap (λ o. closed_or o (step (after 44 (b ∷ t)))) e ∙ ap step f
    ∙ ap (λ (o : Option (Y × List ℕ)). o >>= λ x. with_item x.0 (rest_of_items item (length t) x.1)) g
    ∙ ap (with_item y) (enough item spell Means reads opens (length t) (length rest) rest (omega arith) (omega arith))

-- what is left is shorter
pub more_shrinks : {X Y : Type 0} (item : List ℕ → Option (Y × List ℕ)) (spell : X → List ℕ) (Means : X → Y → Type 0)
    → Reads item spell Means → Opens spell
    → (t u : List ℕ) (y : Y) (rest : List ℕ) → after 44 t ≡ Some u → item u ≡ Some (y, rest) → length rest < length t
more_shrinks item spell Means reads opens t u y rest f g =
    let shorter = shrinks item spell Means reads opens u y rest g in
    let whole = ap length (after_is 44 t u f) in
    omega arith

-- ---- without

abbrev pub left : (List ℕ → Option (List ℕ)) → List ℕ → Option (List ℕ)
left item t = rest_of (rest_of_items (without_value item) (length t) t)

rest_of-with_item : {A : Type 0} (x : A) (read : Option (List A × List ℕ)) → rest_of (with_item x read) ≡ rest_of read
rest_of-with_item x (Some y) = refl
rest_of-with_item x None = refl

pub left_closed : (item : List ℕ → Option (List ℕ)) (t end : List ℕ) → Some end ≡ after 93 t → Some end ≡ left item t
left_closed item t end e = sym (ap rest_of (more_closed (without_value item) t end (sym e)))

pub left_stops : (item : List ℕ → Option (List ℕ)) (t : List ℕ) → None ≡ after 93 t → None ≡ after 44 t
    → None ≡ left item t
left_stops item t e f = sym (ap rest_of (more_stops (without_value item) t (sym e) (sym f)))

pub left_fails : (item : List ℕ → Option (List ℕ)) (t u : List ℕ) → None ≡ after 93 t → Some u ≡ after 44 t
    → None ≡ item u → None ≡ left item t
left_fails item t u e f g = sym (ap rest_of (more_fails (without_value item) t u (sym e) (sym f) (ap bare (sym g))))

pub record Item {X : Type 0} (item : List ℕ → Option (List ℕ)) (spell : X → List ℕ) : Type 0 where
  pub skips : Skips item spell
  pub opens : Opens spell

pub left_goes_on : {X : Type 0} (item : List ℕ → Option (List ℕ)) (spell : X → List ℕ) → Item item spell
    → (t u rest : List ℕ) → None ≡ after 93 t → Some u ≡ after 44 t → Some rest ≡ item u → left item rest ≡ left item t
left_goes_on item spell is t u rest e f g =
    sym (ap rest_of (more_goes_on (without_value item) spell (λ x y. Unit {0}) (Reads-without_value item spell is.skips)
    is.opens t u tt rest (sym e) (sym f) (ap bare (sym g))) ∙ rest_of-with_item _ _)

pub left_shrinks : {X : Type 0} (item : List ℕ → Option (List ℕ)) (spell : X → List ℕ) → Item item spell
    → (t u rest : List ℕ) → Some u ≡ after 44 t → Some rest ≡ item u → length rest < length t
left_shrinks item spell is t u rest f g =
    more_shrinks (without_value item) spell (λ x y. Unit {0}) (Reads-without_value item spell is.skips) is.opens t u tt
    rest (sym f) (ap bare (sym g))

pub string_item : Item string_end string
unfolding string
string_item = record { skips = string_skips; opens = λ ws rest. refl }

-- ---- with the items before

with_items-more : {A : Type 0} (front : List A) (x : A) (read : Option (List A × List ℕ))
    → with_items front (with_item x read) ≡ with_items (front ++ x ∷ []) read
with_items-more {A} front x (Some y) = ap (λ (xs : List A). Some (xs, y.1)) (sym (append_assoc front (x ∷ []) y.0))
with_items-more front x None = refl

pub items_closed : {Y : Type 0} (item : List ℕ → Option (Y × List ℕ)) (front : List Y) (t end : List ℕ)
    (total : Option (List Y × List ℕ)) → Some end ≡ after 93 t
    → with_items front (rest_of_items item (length t) t) ≡ total → total ≡ Some (front, end)
items_closed {Y} item front t end total e so_far =
    sym so_far ∙ ap (with_items front) (more_closed item t end (sym e))
    ∙ ap (λ (ys : List Y). Some (ys, end)) (append-nil front)

pub items_stop : {Y : Type 0} (item : List ℕ → Option (Y × List ℕ)) (front : List Y) (t : List ℕ)
    (total : Option (List Y × List ℕ)) → None ≡ after 93 t → None ≡ after 44 t
    → with_items front (rest_of_items item (length t) t) ≡ total → total ≡ None
items_stop item front t total e f so_far = sym so_far ∙ ap (with_items front) (more_stops item t (sym e) (sym f))

pub items_fail : {Y : Type 0} (item : List ℕ → Option (Y × List ℕ)) (front : List Y) (t u : List ℕ)
    (total : Option (List Y × List ℕ)) → None ≡ after 93 t → Some u ≡ after 44 t
    → with_items front (rest_of_items item (length t) t) ≡ total → item u ≡ None → total ≡ None
items_fail item front t u total e f so_far g =
    sym so_far ∙ ap (with_items front) (more_fails item t u (sym e) (sym f) g)

pub items_go_on : {X Y : Type 0} (item : List ℕ → Option (Y × List ℕ)) (spell : X → List ℕ) (Means : X → Y → Type 0)
    → Reads item spell Means → Opens spell
    → (front now : List Y) (t u : List ℕ) (y : Y) (rest : List ℕ) (total : Option (List Y × List ℕ)) → None ≡ after 93 t
    → Some u ≡ after 44 t → item u ≡ Some (y, rest)
    → now ≡ front ++ y ∷ [] → with_items front (rest_of_items item (length t) t) ≡ total
    → with_items now (rest_of_items item (length rest) rest) ≡ total
items_go_on item spell Means reads opens front now t u y rest total e f g is so_far =
    ap (λ ys. with_items ys (rest_of_items item (length rest) rest)) is
    ∙ sym (with_items-more front y (rest_of_items item (length rest) rest))
    ∙ sym (ap (with_items front) (more_goes_on item spell Means reads opens t u y rest (sym e) (sym f) g))
    ∙ so_far
