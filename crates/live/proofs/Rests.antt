-- What the groups that go leave, by paths.
use Rattle.std.proofs.Common.{◌≡◌, ℕ, ◌-◌, ◌<◌, ◌||◌, Bool, true, false, cond, List, [], ◌∷◌, Option, Some, None, refl}
use Rattle.std.proofs.Common.{sym, ap, ◌∙◌, arith}
use Rattle.std.specs.Prelude.{sum_by, filter, not, nat_lt, if◌then◌else◌}
use Rattle.std.specs.Option.{option_map_or}
use Rattle.std.proofs.lemmas.Bool.{lt-ltb, le-ltb}
use Rattle.live.specs.Graph.{Path, Graph, holds}
use Rattle.live.specs.Remainder.{left_after}
use Rattle.live.specs.Limited.{is_among}
use Rattle.live.specs.Limited.{groups_by, next_group, without}

pub all_kept : (xs : List Path) → filter (λ p. true) xs ≡ xs
all_kept [] = refl
all_kept (x ∷ xs) = ap (λ ys. x ∷ ys) (all_kept xs)

-- what is deleted neither first nor later
both_kept : (p q : Path → Bool) (xs : List Path)
    → filter (λ x. not (q x)) (filter (λ x. not (p x)) xs) ≡ filter (λ x. not (p x || q x)) xs
both_kept p q [] = refl
both_kept p q (x ∷ xs) = by (p x) (q x) refl refl (both_kept p q xs)
  where
    by : (a b : Bool) → p x ≡ a → q x ≡ b
        → filter (λ y. not (q y)) (filter (λ y. not (p y)) xs) ≡ filter (λ y. not (p y || q y)) xs
        → filter (λ y. not (q y)) (cond (not a) (x ∷ filter (λ y. not (p y)) xs) (filter (λ y. not (p y)) xs))
        ≡ cond (not (a || b)) (x ∷ filter (λ y. not (p y || q y)) xs) (filter (λ y. not (p y || q y)) xs)
    by true b e f rest = rest
    by false true e f rest =
        ap (λ c. cond (not c) (x ∷ filter (λ y. not (q y)) (filter (λ y. not (p y)) xs))
        (filter (λ y. not (q y)) (filter (λ y. not (p y)) xs))) f ∙ rest
    by false false e f rest =
        ap (λ c. cond (not c) (x ∷ filter (λ y. not (q y)) (filter (λ y. not (p y)) xs))
        (filter (λ y. not (q y)) (filter (λ y. not (p y)) xs))) f ∙ ap (λ ys. x ∷ ys) rest

-- what is left is what no group took
pub left_is : (g : Graph) (dead : Path → Bool) (size : Path → ℕ) (turns left : List Path) (wanted : ℕ)
    → left_after g dead size turns left wanted
    ≡ filter (λ p. not (is_among (groups_by g dead size turns left wanted) p)) left
unfolding left_after groups_by
left_is g dead size [] left wanted = sym (all_kept left)
left_is g dead size (turn ∷ turns) left wanted =
    by (nat_lt 0 wanted) (next_group g dead left)
    (λ group. left_is g dead size turns (without group left) (wanted - sum_by size group))
  where
    by : (b : Bool) (o : Option (List Path))
        → ((group : List Path) → left_after g dead size turns (without group left) (wanted - sum_by size group)
        ≡ filter (λ p. not (is_among
        (groups_by g dead size turns (without group left) (wanted - sum_by size group)) p))
        (without group left))
        → (if b then option_map_or (λ group. left_after g dead size turns (without group left)
        (wanted - sum_by size group)) o left else left)
        ≡ filter (λ p. not (is_among (if b
        then option_map_or (λ group. group
        ∷ groups_by g dead size turns (without group left) (wanted - sum_by size group)) o [] else []) p))
        left
    by false o more = sym (all_kept left)
    by true None more = sym (all_kept left)
    by true (Some group) more =
        more group ∙ both_kept (holds group)
        (is_among (groups_by g dead size turns (without group left) (wanted - sum_by size group))) left

-- one turn, where a group is deleted
pub one_turn : (g : Graph) (dead : Path → Bool) (size : Path → ℕ) (turn : Path) (turns left : List Path) (wanted : ℕ)
    (group : List Path) → 0 < wanted → next_group g dead left ≡ Some group
    → left_after g dead size (turn ∷ turns) left wanted
    ≡ left_after g dead size turns (without group left) (wanted - sum_by size group)
unfolding left_after
one_turn g dead size turn turns left wanted group h next =
    ap (λ (b : Bool). if b then option_map_or
    (λ x. left_after g dead size turns (without x left) (wanted - sum_by size x)) (next_group g dead left) left
    else left) (lt-ltb 0 wanted h)
    ∙ ap (λ o. option_map_or (λ x. left_after g dead size turns (without x left) (wanted - sum_by size x)) o left) next

-- nothing is deleted where nothing is wanted, or no dead path is left
pub no_turn : (g : Graph) (dead : Path → Bool) (size : Path → ℕ) (turns left : List Path) (wanted : ℕ) → wanted ≡ 0
    → left_after g dead size turns left wanted ≡ left
unfolding left_after
no_turn g dead size [] left wanted none = refl
no_turn g dead size (turn ∷ turns) left wanted none =
    ap (λ (b : Bool). if b then option_map_or
    (λ x. left_after g dead size turns (without x left) (wanted - sum_by size x)) (next_group g dead left) left
    else left) (le-ltb 0 wanted (omega arith))

pub no_group : (g : Graph) (dead : Path → Bool) (size : Path → ℕ) (turns left : List Path) (wanted : ℕ)
    → next_group g dead left ≡ None → left_after g dead size turns left wanted ≡ left
unfolding left_after
no_group g dead size [] left wanted none = refl
no_group g dead size (turn ∷ turns) left wanted none =
    ap (λ o. if nat_lt 0 wanted then option_map_or
    (λ x. left_after g dead size turns (without x left) (wanted - sum_by size x)) o left else left) none
    ∙ either (nat_lt 0 wanted)
  where
    either : (b : Bool) → (if b then left else left) ≡ left
    either true = refl
    either false = refl

-- after the last turn
pub nothing_left : (g : Graph) (dead : Path → Bool) (size : Path → ℕ) (left : List Path) (wanted : ℕ)
    → left ≡ left_after g dead size [] left wanted
unfolding left_after
nothing_left g dead size left wanted = refl
