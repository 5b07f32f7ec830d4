-- What the groups of a collection up to a limit are, one after another.
use Rattle.std.proofs.Common.{◌≡◌, ℕ, zero, suc, ◌-◌, ◌&&◌, ◌||◌, Bool, true, false, cond, List, [], ◌∷◌, take, Option}
use Rattle.std.proofs.Common.{Some, None, refl, sym, ap, ◌∙◌, subst, inl, inr, IsTrue, ◌⊎◌}
use Rattle.std.specs.Prelude.{Contains, filter, find, not, nat_lt, is_some, sum_by, if◌then◌else◌}
use Rattle.std.specs.List.{slice_index_or}
use Rattle.std.specs.Option.{option_map, option_map_or, option_or}
use Rattle.std.specs.FinMap as finite
use Rattle.std.proofs.lemmas.Bool.{and_parts, and_from, or_cases, or_left, or_right, false≢true, cases_Bool}
use Rattle.std.proofs.lemmas.Bool.{false_from_ne_true}
use Rattle.paths.specs.Root.{Root}
use Rattle.live.specs.Graph.{Path, Graph, Keep, Links, references_only, same, holds, is_valid, is_edge, kept_if_valid}
use Rattle.live.specs.Reach.{Reaches, reaches}
use Rattle.live.specs.Live.{IsLive, IsDead, is_live}
use Rattle.live.specs.Limited.{refers, is_referred_to, next_group, without, groups_by, limited_groups, limited_paths}
use Rattle.live.specs.Limited.{is_among}
use Rattle.live.proofs.Live.{live_decided}
use Rattle.live.proofs.Members.{at_head, behind, cases, no_member, any_from, some_of_any, found}
use Rattle.live.proofs.Reach.{decided, goes_on, reach_kept, same_is, same_itself, closed}

-- ---- members of what passes a test

pub in_filter : (p : Path → Bool) (xs : List Path) (y : Path) → Contains (filter p xs) y → Contains xs y × IsTrue (p y)
in_filter p [] y c = absurd (no_member y c)
in_filter p (x ∷ xs) y c = by (p x) refl c (in_filter p xs y)
  where
    by : (b : Bool) → p x ≡ b → Contains (cond b (x ∷ filter p xs) (filter p xs)) y
        → (Contains (filter p xs) y → Contains xs y × IsTrue (p y)) → Contains (x ∷ xs) y × IsTrue (p y)
    by true e d rest = elim (cases x y (filter p xs) d) as (λ _. Contains (x ∷ xs) y × IsTrue (p y)) [
      | inl is ↦ (subst (Contains (x ∷ xs)) is (at_head x xs), subst (λ z. IsTrue (p z)) is e)
      | inr later ↦ (let r = rest later in (behind x y xs r.0, r.1))
    ]
    by false e d rest = (let r = rest d in (behind x y xs r.0, r.1))

pub filter_in : (p : Path → Bool) (xs : List Path) (y : Path) → Contains xs y → IsTrue (p y) → Contains (filter p xs) y
filter_in p [] y c t = absurd (no_member y c)
filter_in p (x ∷ xs) y c t = by (p x) refl (cases x y xs c) (λ later. filter_in p xs y later t)
  where
    by : (b : Bool) → p x ≡ b → (x ≡ y) ⊎ Contains xs y → (Contains xs y → Contains (filter p xs) y)
        → Contains (cond b (x ∷ filter p xs) (filter p xs)) y
    by true e (inl is) rest = subst (Contains (x ∷ filter p xs)) is (at_head x (filter p xs))
    by true e (inr later) rest = behind x y (filter p xs) (rest later)
    by false e (inl is) rest = absurd (false≢true (sym e ∙ ap p is ∙ t))
    by false e (inr later) rest = rest later

pub held_is : (xs : List Path) (p : Path) → IsTrue (holds xs p) → Contains xs p
held_is xs p h = (let s = some_of_any (same p) xs h in subst (Contains xs) (sym (same_is p s.0 s.2)) s.1)

pub is_held : (xs : List Path) (p : Path) → Contains xs p → IsTrue (holds xs p)
is_held xs p c = any_from (same p) xs p c (same_itself p)

-- ---- one group

-- how a group came about: a path alone, or one with all left that reach it
pub data IsGroup (g : Graph) (dead : Path → Bool) (left group : List Path) : Type 0 where
  alone : (p : Path) → find (λ x. dead x && not (is_referred_to g left x)) left ≡ Some p → group ≡ p ∷ []
      → IsGroup g dead left group
  round : (p : Path) → find dead left ≡ Some p → group ≡ filter (λ q. reaches references_only g q p) left
      → IsGroup g dead left group

pub is_group : (g : Graph) (dead : Path → Bool) (left group : List Path) → next_group g dead left ≡ Some group
    → IsGroup g dead left group
is_group g dead left group e =
    by (find (λ x. dead x && not (is_referred_to g left x)) left) (find dead left) refl refl e
  where
    the_same : (xs ys : List Path) → Some xs ≡ Some ys → xs ≡ ys
    the_same xs ys d = cc

    none_is : None ≡ Some group → ⊥
    none_is d = cc

    by : (a b : Option Path) → find (λ x. dead x && not (is_referred_to g left x)) left ≡ a → find dead left ≡ b
        → option_or (option_map (λ p. p ∷ []) a) (option_map (λ p. filter (λ q. reaches references_only g q p) left) b)
        ≡ Some group → IsGroup g dead left group
    by (Some p) b ea eb d = alone p ea (sym (the_same (p ∷ []) group d))
    by None (Some p) ea eb d = round p eb (sym (the_same (filter (λ q. reaches references_only g q p) left) group d))
    by None None ea eb d = absurd (none_is d)

only : (p x : Path) → IsTrue (holds (x ∷ []) p) → p ≡ x
only p x h =
    elim (cases x p [] (held_is (x ∷ []) p h)) as (λ _. p ≡ x) [
      | inl is ↦ sym is
      | inr nothing ↦ absurd (no_member p nothing)
    ]

-- each member is left, and reaches a dead path by references, or is one
pub member : (g : Graph) (dead : Path → Bool) (left group : List Path) → IsGroup g dead left group → (p : Path)
    → IsTrue (holds group p)
    → Contains left p × ((x : Path) × IsTrue (dead x) × ((p ≡ x) ⊎ Reaches references_only g p x))
member g dead left group (alone x e is) p h =
    let f = found (λ y. dead y && not (is_referred_to g left y)) left x e in
    let at = only p x (subst (λ (xs : List Path). IsTrue (holds xs p)) is h) in
    (subst (Contains left) (sym at) f.0, (x, (and_parts (dead x) (not (is_referred_to g left x)) f.1).0, inl at))
member g dead left group (round x e is) p h =
    let f = found dead left x e in
    let in_it =
    in_filter (λ q. reaches references_only g q x) left p
    (held_is (filter (λ q. reaches references_only g q x) left) p
    (subst (λ (xs : List Path). IsTrue (holds xs p)) is h)) in
    (in_it.0, (x, f.1, inr ((decided references_only g p x).0 in_it.1)))

-- a path with an edge is valid
begins_valid : (g : Graph) (q p : Path) → IsTrue (is_edge references_only g q p) → IsTrue (is_valid g q)
begins_valid g q p h =
    by (finite.get g q) (and_parts (is_valid g p) (holds (kept_if_valid references_only (finite.get g q)) p) h).1
  where
    by : (o : Option Links) → IsTrue (holds (kept_if_valid references_only o) p) → IsTrue (is_some o)
    by None d = absurd (false≢true d)
    by (Some l) d = refl

-- what is left and refers to a member is a member
pub referrer : (g : Graph) (dead : Path → Bool) (left group : List Path) → IsGroup g dead left group → (q p : Path)
    → Contains left q → IsTrue (refers g q p) → IsTrue (holds group p) → IsTrue (holds group q)
referrer g dead left group (alone x e is) q p c r h =
    let f = found (λ y. dead y && not (is_referred_to g left y)) left x e in
    let at = only p x (subst (λ (xs : List Path). IsTrue (holds xs p)) is h) in
    let referred = any_from (λ y. refers g y x) left q c (subst (λ y. IsTrue (refers g q y)) at r) in
    absurd (false≢true (sym (ap not referred) ∙ (and_parts (dead x) (not (is_referred_to g left x)) f.1).1))
referrer g dead left group (round x e is) q p c r h =
    let in_it =
    in_filter (λ y. reaches references_only g y x) left p
    (held_is (filter (λ y. reaches references_only g y x) left) p
    (subst (λ (xs : List Path). IsTrue (holds xs p)) is h)) in
    let edge = (and_parts (not (same q p)) (is_edge references_only g q p) r).1 in
    let first = (closed references_only g).edge q p (begins_valid g q p edge) edge in
    let way = goes_on references_only g q p x first ((decided references_only g p x).0 in_it.1) in
    subst (λ (xs : List Path). IsTrue (holds xs q)) (sym is)
    (is_held (filter (λ y. reaches references_only g y x) left) q
    (filter_in (λ y. reaches references_only g y x) left q c ((decided references_only g q x).1 way)))

-- ---- all groups

-- whatever is taken was left, and reaches a dead path
pub consumed_dead : (g : Graph) (dead : Path → Bool) (size : Path → ℕ) (turns left : List Path) (wanted : ℕ) (p : Path)
    → IsTrue (is_among (groups_by g dead size turns left wanted) p)
    → Contains left p × ((x : Path) × IsTrue (dead x) × ((p ≡ x) ⊎ Reaches references_only g p x))
unfolding groups_by
consumed_dead g dead size [] left wanted p h = absurd (false≢true h)
consumed_dead g dead size (turn ∷ turns) left wanted p h =
    by (nat_lt 0 wanted) (next_group g dead left) refl h
    (λ group. consumed_dead g dead size turns (without group left) (wanted - sum_by size group) p)
  where
    by : (b : Bool) (o : Option (List Path)) → next_group g dead left ≡ o
        → IsTrue (is_among (if b then option_map_or
        (λ group. group ∷ groups_by g dead size turns (without group left) (wanted - sum_by size group)) o []
        else []) p)
        → ((group : List Path) → IsTrue
        (is_among (groups_by g dead size turns (without group left) (wanted - sum_by size group)) p)
        → Contains (without group left) p × ((x : Path) × IsTrue (dead x) × ((p ≡ x) ⊎ Reaches references_only g p x)))
        → Contains left p × ((x : Path) × IsTrue (dead x) × ((p ≡ x) ⊎ Reaches references_only g p x))
    by false o e d rest = absurd (false≢true d)
    by true None e d rest = absurd (false≢true d)
    by true (Some group) e d rest =
        elim (or_cases (holds group p)
        (is_among (groups_by g dead size turns (without group left) (wanted - sum_by size group)) p) d)
        as (λ _. Contains left p × ((x : Path) × IsTrue (dead x) × ((p ≡ x) ⊎ Reaches references_only g p x))) [
          | inl here ↦ member g dead left group (is_group g dead left group e) p here
          | inr later ↦ (let r = rest group later in ((in_filter (λ y. not (holds group y)) left p r.0).0, r.1))
        ]

-- what is left and refers to what is taken is taken
pub consumed_referrer : (g : Graph) (dead : Path → Bool) (size : Path → ℕ) (turns left : List Path) (wanted : ℕ)
    (q p : Path) → Contains left q → IsTrue (refers g q p)
    → IsTrue (is_among (groups_by g dead size turns left wanted) p)
    → IsTrue (is_among (groups_by g dead size turns left wanted) q)
unfolding groups_by
consumed_referrer g dead size [] left wanted q p c r h = absurd (false≢true h)
consumed_referrer g dead size (turn ∷ turns) left wanted q p c r h =
    by (nat_lt 0 wanted) (next_group g dead left) refl h
    (λ group d. consumed_referrer g dead size turns (without group left) (wanted - sum_by size group) q p d r)
  where
    by : (b : Bool) (o : Option (List Path)) → next_group g dead left ≡ o
        → IsTrue (is_among (if b then option_map_or
        (λ group. group ∷ groups_by g dead size turns (without group left) (wanted - sum_by size group)) o []
        else []) p)
        → ((group : List Path) → Contains (without group left) q
        → IsTrue (is_among (groups_by g dead size turns (without group left) (wanted - sum_by size group)) p)
        → IsTrue (is_among (groups_by g dead size turns (without group left) (wanted - sum_by size group)) q))
        → IsTrue (is_among (if b then option_map_or
        (λ group. group ∷ groups_by g dead size turns (without group left) (wanted - sum_by size group)) o []
        else []) q)
    by false o e d rest = absurd (false≢true d)
    by true None e d rest = absurd (false≢true d)
    by true (Some group) e d rest =
        let more = groups_by g dead size turns (without group left) (wanted - sum_by size group) in
        elim (or_cases (holds group p)
        (is_among (groups_by g dead size turns (without group left) (wanted - sum_by size group)) p) d)
        as (λ _. IsTrue (holds group q
        || is_among (groups_by g dead size turns (without group left) (wanted - sum_by size group)) q)) [
          | inl here ↦ or_left (holds group q) (is_among more q)
              (referrer g dead left group (is_group g dead left group e) q p c r here)
          | inr later ↦ elim (cases_Bool (holds group q)) as (λ _. IsTrue
              (holds group q || is_among (groups_by g dead size turns (without group left)
              (wanted - sum_by size group)) q)) [
                | inl in_it ↦ or_left (holds group q) (is_among more q) in_it
                | inr out ↦ or_right (holds group q) (is_among more q)
                    (rest group (filter_in (λ y. not (holds group y)) left q c (ap not out)) later)
              ]
        ]

-- ---- the laws

pub none_for_nothing : (g : Graph) (dead : Path → Bool) (size : Path → ℕ) → limited_paths g dead size 0 ≡ []
unfolding groups_by
none_for_nothing g dead size = by (finite.keys g) (finite.keys g)
  where
    no_groups : (turns left : List Path) → groups_by g dead size turns left 0 ≡ []
    no_groups [] left = refl
    no_groups (turn ∷ turns) left = refl

    nothing : (xs : List Path) → filter (λ p. is_among [] p) xs ≡ []
    nothing [] = refl
    nothing (x ∷ xs) = nothing xs

    by : (turns xs : List Path) → filter (λ p. is_among (groups_by g dead size turns turns 0) p) xs ≡ []
    by turns xs = ap (λ gs. filter (λ p. is_among gs p) xs) (no_groups turns turns) ∙ nothing xs

pub removed_are_dead : (keep : Keep) (g : Graph) (roots : List Root) (size : Path → ℕ) (limit : ℕ) (p : Path)
    → Contains (limited_paths g (λ x. not (is_live keep g roots x)) size limit) p → IsDead keep g roots p
removed_are_dead keep g roots size limit p c =
    let f =
    in_filter (λ x. is_among (limited_groups g (λ y. not (is_live keep g roots y)) size limit) x) (finite.keys g) p
    c in
    let t = consumed_dead g (λ y. not (is_live keep g roots y)) size (finite.keys g) (finite.keys g) limit p f.1 in
    record {
      valid = finite.contains_key-keys g p ∙ is_held (finite.keys g) p f.0;
      unreached = λ live. dies t.1.0 t.1.1 (elim t.1.2 as (λ _. IsLive keep g roots t.1.0) [
        | inl is ↦ subst (IsLive keep g roots) is live
        | inr way ↦ record {
          root = live.root;
          listed = live.listed;
          reaches = goes_on keep g live.root.target p t.1.0 live.reaches (reach_kept keep g p t.1.0 way);
        }
      ]);
    }
  where
    dies : (x : Path) → IsTrue (not (is_live keep g roots x)) → IsLive keep g roots x → ⊥
    dies x d live = false≢true (sym (ap not ((live_decided keep g roots x).1 live)) ∙ d)

pub nothing_refers : (g : Graph) (dead : Path → Bool) (size : Path → ℕ) (limit : ℕ) (q p : Path) → IsTrue (is_valid g q)
    → (Contains (limited_paths g dead size limit) q → ⊥)
    → IsTrue (is_edge references_only g q p) → Contains (limited_paths g dead size limit) p → ⊥
nothing_refers g dead size limit q p valid stays edge went =
    let f = in_filter (λ x. is_among (limited_groups g dead size limit) x) (finite.keys g) p went in
    let listed = held_is (finite.keys g) q (sym (finite.contains_key-keys g q) ∙ valid) in
    let other : same q p ≡ false =
    false_from_ne_true (same q p)
    (λ e. stays (subst (Contains (limited_paths g dead size limit)) (sym (same_is q p e)) went)) in
    let r = and_from (not (same q p)) (is_edge references_only g q p) (ap not other) edge in
    stays (filter_in (λ x. is_among (limited_groups g dead size limit) x) (finite.keys g) q listed
    (consumed_referrer g dead size (finite.keys g) (finite.keys g) limit q p listed r f.1))

-- what refers to a member of a group is deleted with it or before
pub ordered : (g : Graph) (dead : Path → Bool) (size : Path → ℕ) (turns left : List Path) (wanted k : ℕ) (q p : Path)
    → Contains left q → IsTrue (refers g q p)
    → IsTrue (holds (slice_index_or (groups_by g dead size turns left wanted) k []) p)
    → IsTrue (is_among (take (suc k) (groups_by g dead size turns left wanted)) q)
unfolding groups_by
ordered g dead size [] left wanted k q p c r h = absurd (false≢true h)
ordered g dead size (turn ∷ turns) left wanted k q p c r h =
    by (nat_lt 0 wanted) (next_group g dead left) refl k h
    (λ group j d. ordered g dead size turns (without group left) (wanted - sum_by size group) j q p d r)
  where
    by : (b : Bool) (o : Option (List Path)) → next_group g dead left ≡ o → (i : ℕ)
        → IsTrue (holds (slice_index_or
        (if b then option_map_or (λ group. group
        ∷ groups_by g dead size turns (without group left) (wanted - sum_by size group)) o [] else []) i [])
        p)
        → ((group : List Path) (j : ℕ) → Contains (without group left) q
        → IsTrue (holds (slice_index_or
        (groups_by g dead size turns (without group left) (wanted - sum_by size group)) j []) p)
        → IsTrue (is_among (take (suc j)
        (groups_by g dead size turns (without group left) (wanted - sum_by size group))) q))
        → IsTrue (is_among (take (suc i)
        (if b then option_map_or (λ group. group
        ∷ groups_by g dead size turns (without group left) (wanted - sum_by size group)) o [] else [])) q)
    by false o e i d rest = absurd (false≢true d)
    by true None e i d rest = absurd (false≢true d)
    by true (Some group) e zero d rest =
        or_left (holds group q) _ (referrer g dead left group (is_group g dead left group e) q p c r d)
    by true (Some group) e (suc j) d rest = elim (cases_Bool (holds group q))
        as (λ _. IsTrue (holds group q
        || is_among (take (suc j) (groups_by g dead size turns (without group left)
        (wanted - sum_by size group))) q)) [
          | inl in_it ↦ or_left (holds group q) _ in_it
          | inr out ↦ or_right (holds group q) _
              (rest group j (filter_in (λ y. not (holds group y)) left q c (ap not out)) d)
        ]

pub referrers_first : (g : Graph) (dead : Path → Bool) (size : Path → ℕ) (limit k : ℕ) (q p : Path)
    → IsTrue (is_valid g q) → IsTrue (refers g q p)
    → IsTrue (holds (slice_index_or (limited_groups g dead size limit) k []) p)
    → IsTrue (is_among (take (suc k) (limited_groups g dead size limit)) q)
referrers_first g dead size limit k q p valid r h =
    ordered g dead size (finite.keys g) (finite.keys g) limit k q p
    (held_is (finite.keys g) q (sym (finite.contains_key-keys g q) ∙ valid)) r h
