-- A collection up to a limit has one list of groups.
use Rattle.std.proofs.Common.{◌≡◌, ℕ, suc, ◌-◌, ◌<◌, ◌≤◌, ◌&&◌, Bool, true, false, cond, List, [], ◌∷◌, length, Option}
use Rattle.std.proofs.Common.{Some, None, refl, sym, ap, ◌∙◌, subst, inl, inr, arith, IsTrue, ◌⊎◌}
use Rattle.std.specs.Prelude.{Contains, filter, not, nat_lt, sum_by, if◌then◌else◌, ◌↔◌}
use Rattle.std.specs.Option.{option_map_or}
use Rattle.std.specs.FinMap as finite
use Rattle.std.proofs.lemmas.Bool.{false≢true, lt-ltb, le-ltb, ltb-true, ltb-false}
use Rattle.live.specs.Graph.{Path, Graph, holds, is_valid, references_only}
use Rattle.live.specs.Reach.{reaches}
use Rattle.live.specs.Limited.{is_referred_to, next_group, without, DeletesGroups, groups_by, limited_groups}
use Rattle.live.proofs.Groups.{IsGroup, alone, round, is_group, in_filter, filter_in, is_held}
use Rattle.live.proofs.Members.{at_head, cases, no_member, found}
use Rattle.live.proofs.Reach.{closed, decided}

-- what doesn't pass makes a list shorter
at_most : (p : Path → Bool) (xs : List Path) → length (filter p xs) ≤ length xs
at_most p [] = omega arith
at_most p (x ∷ xs) = by (p x) (at_most p xs)
  where
    by : (b : Bool) → length (filter p xs) ≤ length xs
        → length (cond b (x ∷ filter p xs) (filter p xs)) ≤ suc (length xs)
    by true h = omega arith
    by false h = omega arith

shorter : (p : Path → Bool) (xs : List Path) (y : Path) → Contains xs y → p y ≡ false → length (filter p xs) < length xs
shorter p [] y c e = absurd (no_member y c)
shorter p (x ∷ xs) y c e = by (p x) refl (at_most p xs) (cases x y xs c) (λ later. shorter p xs y later e)
  where
    by : (b : Bool) → p x ≡ b → length (filter p xs) ≤ length xs → (x ≡ y) ⊎ Contains xs y
        → (Contains xs y → length (filter p xs) < length xs)
        → length (cond b (x ∷ filter p xs) (filter p xs)) < suc (length xs)
    by false f h at rest = omega arith
    by true f h (inl is) rest = absurd (false≢true (sym e ∙ sym (ap p is) ∙ f))
    by true f h (inr later) rest = (let r = rest later in omega arith)

-- paths are valid
abbrev pub AreValid : Graph → List Path → Type 0
AreValid g left = (p : Path) → Contains left p → IsTrue (is_valid g p)

pub valid_left : (g : Graph) (group left : List Path) → AreValid g left → AreValid g (without group left)
valid_left g group left v p c = v p (in_filter (λ x. not (holds group x)) left p c).0

-- a group takes a path that is left
pub shrinks : (g : Graph) (dead : Path → Bool) (left group : List Path) → AreValid g left → IsGroup g dead left group
    → length (without group left) < length left
shrinks g dead left group v (alone x e is) =
    let f = found (λ y. dead y && not (is_referred_to g left y)) left x e in
    shorter (λ y. not (holds group y)) left x f.0
    (ap not (is_held group x (subst (λ (xs : List Path). Contains xs x) (sym is) (at_head x []))))
shrinks g dead left group v (round x e is) =
    let f = found dead left x e in
    let itself = (decided references_only g x x).1 ((closed references_only g).itself x (v x f.0)) in
    shorter (λ y. not (holds group y)) left x f.0
    (ap not (is_held group x (subst (λ (xs : List Path). Contains xs x) (sym is)
    (filter_in (λ q. reaches references_only g q x) left x f.0 itself))))

never_some : (group : List Path) → None ≡ Some group → ⊥
never_some group e = cc

-- the list that is taken is the one that is computed
pub one_list : (g : Graph) (dead : Path → Bool) (size : Path → ℕ) (turns left : List Path) (wanted : ℕ)
    → AreValid g left → length left ≤ length turns → (groups : List (List Path))
    → DeletesGroups g dead size left wanted groups → groups ≡ groups_by g dead size turns left wanted
unfolding groups_by
one_list g dead size [] [] wanted v h [] t = refl
one_list g dead size [] [] wanted v h (group ∷ groups) t = absurd (never_some group t.1)
one_list g dead size [] (x ∷ left) wanted v h groups t = absurd (omega arith)
one_list g dead size (turn ∷ turns) left wanted v h [] (inl none) =
    sym (ap (λ (b : Bool). if b then option_map_or
    (λ group. group ∷ groups_by g dead size turns (without group left) (wanted - sum_by size group))
    (next_group g dead left) [] else []) (le-ltb 0 wanted (omega arith)))
one_list g dead size (turn ∷ turns) left wanted v h [] (inr none) =
    sym (ap (λ o. if nat_lt 0 wanted
    then option_map_or (λ group. group
    ∷ groups_by g dead size turns (without group left) (wanted - sum_by size group)) o [] else []) none
    ∙ either (nat_lt 0 wanted))
  where
    either : (b : Bool) → ◌≡◌ {A = List (List Path)} (if b then [] else []) []
    either true = refl
    either false = refl
one_list g dead size (turn ∷ turns) left wanted v h (group ∷ groups) t =
    let less = shrinks g dead left group v (is_group g dead left group t.1) in
    let rest =
    one_list g dead size turns (without group left) (wanted - sum_by size group) (valid_left g group left v)
    (omega arith) groups t.2 in
    ap (λ gs. group ∷ gs) rest
    ∙ sym (ap (λ (b : Bool). if b then option_map_or
    (λ x. x ∷ groups_by g dead size turns (without x left) (wanted - sum_by size x)) (next_group g dead left) []
    else []) (lt-ltb 0 wanted t.0)
    ∙ ap (λ o. option_map_or (λ x. x ∷ groups_by g dead size turns (without x left) (wanted - sum_by size x)) o []) t.1)

-- and that list is taken
pub is_consumed_list : (g : Graph) (dead : Path → Bool) (size : Path → ℕ) (turns left : List Path) (wanted : ℕ)
    → AreValid g left → length left ≤ length turns
    → DeletesGroups g dead size left wanted (groups_by g dead size turns left wanted)
unfolding groups_by
is_consumed_list g dead size [] [] wanted v h = inr refl
is_consumed_list g dead size [] (x ∷ left) wanted v h = absurd (omega arith)
is_consumed_list g dead size (turn ∷ turns) left wanted v h =
    by (nat_lt 0 wanted) refl (next_group g dead left) refl
    (λ group less. is_consumed_list g dead size turns (without group left) (wanted - sum_by size group)
    (valid_left g group left v) (omega arith))
  where
    by : (b : Bool) → nat_lt 0 wanted ≡ b → (o : Option (List Path)) → next_group g dead left ≡ o
        → ((group : List Path) → length (without group left) < length left
        → DeletesGroups g dead size (without group left) (wanted - sum_by size group)
        (groups_by g dead size turns (without group left) (wanted - sum_by size group)))
        → DeletesGroups g dead size left wanted
        (if b then option_map_or (λ group. group
        ∷ groups_by g dead size turns (without group left) (wanted - sum_by size group)) o [] else [])
    by false e o f rest = inl (let l = ltb-false 0 wanted e in omega arith)
    by true e None f rest = inr f
    by true e (Some group) f rest =
        (ltb-true 0 wanted e, f, rest group (shrinks g dead left group v (is_group g dead left group f)))

pub one_answer : (g : Graph) (dead : Path → Bool) (size : Path → ℕ) (limit : ℕ) (groups : List (List Path))
    → DeletesGroups g dead size (finite.keys g) limit groups ↔ (groups ≡ limited_groups g dead size limit)
one_answer g dead size limit groups = (
  one_list g dead size (finite.keys g) (finite.keys g) limit valid (omega arith) groups,
  λ e. subst (DeletesGroups g dead size (finite.keys g) limit) (sym e)
      (is_consumed_list g dead size (finite.keys g) (finite.keys g) limit valid (omega arith)),
)
  where
    valid : AreValid g (finite.keys g)
    valid p c = finite.contains_key-keys g p ∙ is_held (finite.keys g) p c
