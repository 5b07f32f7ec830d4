-- A limit beyond all dead paths removes them all.
use Rattle.std.proofs.Common.{◌≡◌, ℕ, ◌+◌, ◌-◌, ◌<◌, ◌≤◌, ◌&&◌, ◌||◌, Bool, true, false, cond, List, [], ◌∷◌, length}
use Rattle.std.proofs.Common.{Option, Some, None, refl, sym, ap, ◌∙◌, subst, inl, inr, arith, IsTrue, ◌⊎◌}
use Rattle.std.specs.Prelude.{Contains, filter, find, not, sum_by, if◌then◌else◌}
use Rattle.std.specs.Option.{option_map, option_map_or, option_or}
use Rattle.std.specs.FinMap as finite
use Rattle.std.proofs.lemmas.Bool.{or_left, or_right, false≢true, cases_Bool, false_from_ne_true, lt-ltb}
use Rattle.std.proofs.lemmas.List.Sums.{sum_by-cons}
use Rattle.paths.specs.Root.{Root}
use Rattle.live.specs.Graph.{Path, Graph, Keep, holds, references_only}
use Rattle.live.specs.Reach.{Reaches, reaches}
use Rattle.live.specs.Live.{IsLive, is_live}
use Rattle.live.specs.Limited.{is_referred_to, is_among, next_group, without, groups_by, limited_groups, limited_paths}
use Rattle.live.proofs.Groups.{IsGroup, alone, round, is_group, member, in_filter, filter_in, held_is, is_held}
use Rattle.live.proofs.Groups.{consumed_dead}
use Rattle.live.proofs.Live.{live_decided}
use Rattle.live.proofs.Members.{at_head, behind, cases, no_member, found, not_found}
use Rattle.live.proofs.Order.{same_bools}
use Rattle.live.proofs.Reach.{goes_on, reach_kept}
use Rattle.live.proofs.UniqueGroups.{AreValid, shrinks, valid_left}

-- ---- sums over what passes tests

filter_step : (f : Path → ℕ) (b : Bool) (x : Path) (xs : List Path)
    → sum_by f (cond b (x ∷ xs) xs) ≡ cond b (f x) 0 + sum_by f xs
filter_step f true x xs = sum_by-cons f x xs
filter_step f false x xs = omega arith

pub sum_parts : (f : Path → ℕ) (d r : Path → Bool) (xs : List Path)
    → ((y : Path) → Contains xs y → IsTrue (r y) → IsTrue (d y))
    → sum_by f (filter d xs) ≡ sum_by f (filter r xs) + sum_by f (filter d (filter (λ y. not (r y)) xs))
sum_parts f d r [] h = omega arith
sum_parts f d r (x ∷ xs) h =
    by (d x) (r x) refl refl (h x (at_head x xs)) (sum_parts f d r xs (λ y c. h y (behind x y xs c)))
  where
    by : (a b : Bool) → d x ≡ a → r x ≡ b → (IsTrue (r x) → IsTrue (d x))
        → sum_by f (filter d xs) ≡ sum_by f (filter r xs) + sum_by f (filter d (filter (λ y. not (r y)) xs))
        → sum_by f (cond a (x ∷ filter d xs) (filter d xs))
        ≡ sum_by f (cond b (x ∷ filter r xs) (filter r xs))
        + sum_by f (filter d (cond (not b) (x ∷ filter (λ y. not (r y)) xs) (filter (λ y. not (r y)) xs)))
    by true true e g k rest =
        (let m = sum_by-cons f x (filter d xs) in let n = sum_by-cons f x (filter r xs) in omega (arith, m, n, rest))
    by true false e g k rest = (
        let m = sum_by-cons f x (filter d xs) in
        let n =
        ap (λ c. sum_by f (cond c (x ∷ filter d (filter (λ y. not (r y)) xs))
        (filter d (filter (λ y. not (r y)) xs)))) e in
        let o = sum_by-cons f x (filter d (filter (λ y. not (r y)) xs)) in
        omega (arith, m, n, o, rest))
    by false true e g k rest = absurd (false≢true (sym e ∙ k g))
    by false false e g k rest = (
        let n =
        ap (λ c. sum_by f (cond c (x ∷ filter d (filter (λ y. not (r y)) xs))
        (filter d (filter (λ y. not (r y)) xs)))) e in
        omega (arith, n, rest))

one_of_sum : (f : Path → ℕ) (r : Path → Bool) (xs : List Path) (x : Path) → Contains xs x → IsTrue (r x)
    → f x ≤ sum_by f (filter r xs)
one_of_sum f r [] x c t = absurd (no_member x c)
one_of_sum f r (y ∷ ys) x c t = by (r y) refl (cases y x ys c) (λ later. one_of_sum f r ys x later t)
  where
    by : (b : Bool) → r y ≡ b → (y ≡ x) ⊎ Contains ys x → (Contains ys x → f x ≤ sum_by f (filter r ys))
        → f x ≤ sum_by f (cond b (y ∷ filter r ys) (filter r ys))
    by true e (inl is) rest = (let m = sum_by-cons f y (filter r ys) in let n = ap f is in omega (arith, m, n))
    by true e (inr later) rest = (let m = sum_by-cons f y (filter r ys) in let n = rest later in omega (arith, m, n))
    by false e (inl is) rest = absurd (false≢true (sym e ∙ ap r is ∙ t))
    by false e (inr later) rest = rest later

same_filter : (p q : Path → Bool) (xs : List Path) → ((y : Path) → Contains xs y → p y ≡ q y)
    → filter p xs ≡ filter q xs
same_filter p q [] h = refl
same_filter p q (x ∷ xs) h =
    ap (λ b. cond b (x ∷ filter p xs) (filter p xs)) (h x (at_head x xs))
    ∙ ap (λ ys. cond (q x) (x ∷ ys) ys) (same_filter p q xs (λ y c. h y (behind x y xs c)))

-- ---- a group and the dead paths left

module _ (g : Graph) (dead : Path → Bool) (size : Path → ℕ)
    (dies : (q x : Path) → Reaches references_only g q x → IsTrue (dead x) → IsTrue (dead q)) where
  in_group_dead : (left group : List Path) → IsGroup g dead left group → (p : Path) → IsTrue (holds group p)
      → IsTrue (dead p)
  in_group_dead left group i p h =
      let m = (member g dead left group i p h).1 in
      elim m.2 as (λ _. IsTrue (dead p)) [
        | inl is ↦ subst (λ x. IsTrue (dead x)) (sym is) m.1
        | inr way ↦ dies p m.0 way m.1
      ]

  group_sum : (left group : List Path) → IsGroup g dead left group
      → sum_by size group ≤ sum_by size (filter (holds group) left)
  group_sum left group (alone x e is) =
      let f = found (λ y. dead y && not (is_referred_to g left y)) left x e in
      let one =
      one_of_sum size (holds group) left x f.0
      (is_held group x (subst (λ (xs : List Path). Contains xs x) (sym is) (at_head x []))) in
      let s = ap (sum_by size) is in
      let c = sum_by-cons size x [] in
      omega (arith, one, s, c)
  group_sum left group (round x e is) =
      let r : Path → Bool = λ q. reaches references_only g q x in
      let same =
      same_filter (holds group) (λ q. reaches references_only g q x) left
      (λ y c. same_bools (holds group y) (reaches references_only g y x)
      (λ h. (in_filter (λ q. reaches references_only g q x) left y
      (subst (λ (xs : List Path). Contains xs y) is (held_is group y h))).1)
      (λ t. is_held group y (subst (λ (xs : List Path). Contains xs y) (sym is)
      (filter_in (λ q. reaches references_only g q x) left y c t)))) in
      let s = ap (sum_by size) (same ∙ sym is) in
      omega (arith, s)

  less_dead : (left group : List Path) → IsGroup g dead left group
      → sum_by size group + sum_by size (filter dead (without group left)) ≤ sum_by size (filter dead left)
  less_dead left group i =
      let parts = sum_parts size dead (holds group) left (λ y c h. in_group_dead left group i y h) in
      let s = group_sum left group i in
      omega (arith, parts, s)

  none_dead : (left : List Path) → next_group g dead left ≡ None → find dead left ≡ None
  none_dead left e = by (find (λ x. dead x && not (is_referred_to g left x)) left) (find dead left) e
    where
      by : (a b : Option Path) → option_or (option_map (λ p. p ∷ []) a)
          (option_map (λ p. filter (λ q. reaches references_only g q p) left) b) ≡ None → b ≡ None
      by (Some x) b d = absurd (some_none (x ∷ []) d)
        where
          some_none : (xs : List Path) → Some xs ≡ None → ⊥
          some_none xs f = cc
      by None None d = refl
      by None (Some x) d = absurd (some_none (filter (λ q. reaches references_only g q x) left) d)
        where
          some_none : (xs : List Path) → Some xs ≡ None → ⊥
          some_none xs f = cc

  pub all_go : (turns left : List Path) (wanted : ℕ) → AreValid g left → length left ≤ length turns
      → sum_by size (filter dead left) < wanted → (p : Path) → Contains left p → IsTrue (dead p)
      → IsTrue (is_among (groups_by g dead size turns left wanted) p)
  unfolding groups_by
  all_go [] [] wanted v h s p c d = absurd (no_member p c)
  all_go [] (x ∷ left) wanted v h s p c d = absurd (omega arith)
  all_go (turn ∷ turns) left wanted v h s p c d =
      subst (λ (b : Bool). IsTrue (is_among
      (if b then option_map_or (λ group. group
      ∷ groups_by g dead size turns (without group left) (wanted - sum_by size group))
      (next_group g dead left) [] else []) p)) (sym (lt-ltb 0 wanted (omega arith)))
      (by (next_group g dead left) refl (λ group i out.
      (let l = less_dead left group i in let k = shrinks g dead left group v i in
      all_go turns (without group left) (wanted - sum_by size group) (valid_left g group left v) (omega arith)
      (omega (arith, s, l)) p (filter_in (λ y. not (holds group y)) left p c (ap not out)) d)))
    where
      by : (o : Option (List Path)) → next_group g dead left ≡ o
          → ((group : List Path) → IsGroup g dead left group → holds group p ≡ false
          → IsTrue (is_among (groups_by g dead size turns (without group left) (wanted - sum_by size group)) p))
          → IsTrue (is_among (option_map_or
          (λ group. group ∷ groups_by g dead size turns (without group left) (wanted - sum_by size group)) o [])
          p)
      by None e rest = absurd (not_found dead left p (none_dead left e) c d)
      by (Some group) e rest =
          elim (cases_Bool (holds group p)) as (λ _. IsTrue
          (holds group p || is_among (groups_by g dead size turns (without group left) (wanted - sum_by size group))
          p)) [
            | inl in_it ↦ or_left (holds group p) _ in_it
            | inr out ↦ or_right (holds group p) _ (rest group (is_group g dead left group e) out)
          ]

pub all_removed : (keep : Keep) (g : Graph) (roots : List Root) (size : Path → ℕ) (limit : ℕ)
    → sum_by size (filter (λ x. not (is_live keep g roots x)) (finite.keys g)) < limit
    → limited_paths g (λ x. not (is_live keep g roots x)) size limit
    ≡ filter (λ x. not (is_live keep g roots x)) (finite.keys g)
all_removed keep g roots size limit less =
    same_filter (is_among (limited_groups g (λ x. not (is_live keep g roots x)) size limit))
    (λ x. not (is_live keep g roots x)) (finite.keys g) (λ y c. same_bools
    (is_among (limited_groups g (λ x. not (is_live keep g roots x)) size limit) y) (not (is_live keep g roots y))
    (λ t. (let m = (consumed_dead g (λ x. not (is_live keep g roots x)) size (finite.keys g) (finite.keys g) limit y
    t).1 in
    elim m.2 as (λ _. IsTrue (not (is_live keep g roots y))) [
      | inl is ↦ subst (λ x. IsTrue (not (is_live keep g roots x))) (sym is) m.1
      | inr way ↦ dies y m.0 way m.1
    ]))
    (λ d. all_go g (λ x. not (is_live keep g roots x)) size dies (finite.keys g) (finite.keys g) limit
    (λ p k. finite.contains_key-keys g p ∙ is_held (finite.keys g) p k) (omega arith) less y c d))
  where
    dies : (q x : Path) → Reaches references_only g q x → IsTrue (not (is_live keep g roots x))
        → IsTrue (not (is_live keep g roots q))
    dies q x way d = ap not (false_from_ne_true (is_live keep g roots q) (λ t. (
        let live = (live_decided keep g roots q).0 t in
        let further : IsLive keep g roots x =
        record {
          root = live.root;
          listed = live.listed;
          reaches = goes_on keep g live.root.target q x live.reaches (reach_kept keep g q x way);
        } in
        false≢true (sym (ap not ((live_decided keep g roots x).1 further)) ∙ d))))
