-- Where no references make a cycle, some dead path is left that no other refers to.
use Rattle.std.proofs.Common.{◌≡◌, ℕ, zero, suc, ◌<◌, ◌≤◌, List, [], ◌∷◌, length, Bool, true, false, not, ◌&&◌, cond}
use Rattle.std.proofs.Common.{Some, None, Option, refl, sym, ap, arith, ◌∙◌, IsTrue, subst, inl, inr, ◌⊎◌}
use Rattle.std.specs.Prelude.{is_some, Contains}
use Rattle.std.specs.List.{filter, find}
use Rattle.std.specs.List.Sorted.{IsStrictlySortedBy}
use Rattle.std.specs.Option.{option_map, option_or}
use Rattle.std.specs.declared.cmp.Ordering.TheVariants.{Less}
use Rattle.std.specs.Cmp.Lexicographic.{nat_list_cmp_total}
use Rattle.paths.specs.Root.{bytes_cmp}
use Rattle.std.proofs.lemmas.Bool.{and_parts, and_from, false≢true}
use Rattle.live.specs.Graph.{Path, Graph, same, references_only, is_valid, is_edge}
use Rattle.live.specs.Reach.{Reaches, reaches}
use Rattle.live.specs.Limited.{refers, is_referred_to, next_with_referrers, next_group}
use Rattle.live.proofs.Groups.{filter_in}
use Rattle.live.proofs.Members.{cases, no_member, some_of_any, found, not_found, not_below_itself, not_both}
use Rattle.live.proofs.Reach.{decided, goes_on, same_itself}
use Rattle.laws.proofs.LabelsAndOrder.{member_all}

-- ---- what passes a narrower test is shorter

module _ (f g : Path → Bool) (narrower : (y : Path) → IsTrue (f y) → IsTrue (g y)) where
  no_longer : (xs : List Path) → length (filter f xs) ≤ length (filter g xs)
  no_longer [] = omega arith
  no_longer (x ∷ xs) = by (f x) (g x) (narrower x) (no_longer xs)
    where
      by : (a b : Bool) → (IsTrue a → IsTrue b) → length (filter f xs) ≤ length (filter g xs)
          → length (cond a (x ∷ filter f xs) (filter f xs)) ≤ length (cond b (x ∷ filter g xs) (filter g xs))
      by true true h le = omega arith
      by true false h le = absurd (false≢true (h refl))
      by false true h le = omega arith
      by false false h le = le

  shorter : (xs : List Path) (x : Path) → Contains xs x → IsTrue (g x) → (IsTrue (f x) → ⊥)
      → length (filter f xs) < length (filter g xs)
  shorter [] x c t out = absurd (no_member x c)
  shorter (y ∷ ys) x c t out =
      by (f y) (g y) refl refl (narrower y) (cases y x ys c) (λ later. shorter ys x later t out)
    where
      by : (a b : Bool) → f y ≡ a → g y ≡ b → (IsTrue a → IsTrue b) → (y ≡ x) ⊎ Contains ys x
          → (Contains ys x → length (filter f ys) < length (filter g ys))
          → length (cond a (y ∷ filter f ys) (filter f ys)) < length (cond b (y ∷ filter g ys) (filter g ys))
      by true b ea eb h (inl is) rest = absurd (out (ap f (sym is) ∙ ea))
      by false true ea eb h (inl is) rest = let le = no_longer ys in omega arith
      by false false ea eb h (inl is) rest = absurd (false≢true (sym eb ∙ ap g is ∙ t))
      by true true ea eb h (inr later) rest = let lt = rest later in omega arith
      by true false ea eb h (inr later) rest = absurd (false≢true (h refl))
      by false true ea eb h (inr later) rest = let lt = rest later in omega arith
      by false false ea eb h (inr later) rest = rest later

-- ---- the first of a list that rises

-- none that passes a test comes before the first that is found
pub none_less : (f : Path → Bool) (xs : List Path) (p q : Path) → IsStrictlySortedBy bytes_cmp xs → find f xs ≡ Some p
    → Contains xs q → IsTrue (f q) → bytes_cmp q p ≡ Less → ⊥
unfolding IsStrictlySortedBy
none_less f [] p q rise e c t less = no_member q c
none_less f (x ∷ xs) p q rise e c t less =
    by (f x) refl e (cases x q xs c) (λ later is. none_less f xs p q rise.1 is later t less)
  where
    by : (b : Bool) → f x ≡ b → cond b (Some x) (find f xs) ≡ Some p → (x ≡ q) ⊎ Contains xs q
        → (Contains xs q → find f xs ≡ Some p → ⊥) → ⊥
    by true is d (inl here) more =
        let same : x ≡ p = cc in
        not_below_itself nat_list_cmp_total p (subst (λ (z : Path). bytes_cmp z p ≡ Less) (sym here ∙ same) less)
    by true is d (inr later) more =
        let same : x ≡ p = cc in
        not_both nat_list_cmp_total p q
        (subst (λ (z : Path). bytes_cmp z q ≡ Less) same (member_all (λ y. bytes_cmp x y ≡ Less) xs rise.0 q later))
        less
    by false is d (inl here) more = false≢true (sym is ∙ ap f here ∙ t)
    by false is d (inr later) more = more later d

-- ---- a path that no other left refers to

module _ (g : Graph) (dead : Path → Bool)
    (upward : (q p : Path) → Reaches references_only g q p → IsTrue (dead p) → IsTrue (dead q))
    (apart : (p q : Path) → Reaches references_only g p q → Reaches references_only g q p → p ≡ q)
    (left : List Path) (valid : (p : Path) → Contains left p → IsTrue (is_valid g p))
    (rise : IsStrictlySortedBy bytes_cmp left) where
  -- one that is dead and that none refers to
  abbrev is_deleted_singly : Path → Bool
  is_deleted_singly p = dead p && not (is_referred_to g left p)

  itself : (p : Path) → Contains left p → IsTrue (reaches references_only g p p)
  itself p c = (decided references_only g p p).1 (record { valid = valid p c; steps = []; leads = refl })

  step : (q p : Path) → Contains left q → IsTrue (refers g q p) → Reaches references_only g q p
  step q p c r =
      record {
        valid = valid q c;
        steps = p ∷ [];
        leads = ((and_parts (not (same q p)) (is_edge references_only g q p) r).1, refl);
      }

  others : (q p : Path) → IsTrue (refers g q p) → q ≡ p → ⊥
  others q p r is =
      false≢true (ap not (sym (ap (same q) (sym is) ∙ same_itself q))
      ∙ (and_parts (not (same q p)) (is_edge references_only g q p) r).0)

  -- from a dead path one goes on to what refers to it, and on; those that reach it get fewer
  climbs : find is_deleted_singly left ≡ None → (n : ℕ) (p : Path) → Contains left p → IsTrue (dead p)
      → length (filter (λ y. reaches references_only g y p) left) ≤ n → ⊥
  climbs none zero p c d le = let k = filter_in (λ y. reaches references_only g y p) left p c (itself p c) in let lt =
      k.1 in omega arith
  climbs none (suc n) p c d le =
      by (is_referred_to g left p) refl (λ q listed is_dead fewer. climbs none n q listed is_dead fewer)
    where
      by : (b : Bool) → is_referred_to g left p ≡ b
          → ((q : Path) → Contains left q → IsTrue (dead q)
          → length (filter (λ y. reaches references_only g y q) left) ≤ n → ⊥) → ⊥
      by false e on =
          not_found is_deleted_singly left p none c (and_from (dead p) (not (is_referred_to g left p)) d (ap not e))
      by true e on =
          let q = some_of_any (λ y. refers g y p) left e in
          let first = step q.0 p q.1 q.2 in
          let lt = shorter (λ y. reaches references_only g y q.0) (λ y. reaches references_only g y p)
          (λ y h. (decided references_only g y p).1
          (goes_on references_only g y q.0 p ((decided references_only g y q.0).0 h) first))
          left p c (itself p c) (λ h. others q.0 p q.2 (apart q.0 p first ((decided references_only g p q.0).0 h))) in
          on q.0 q.1 (upward q.0 p first d) (omega arith)

  -- a path that is deleted alone, and the least of those that could
  pub record IsDeletedSingly (group : List Path) : Type 0 where
    pub path : Path
    pub is : group ≡ path ∷ []
    pub listed : Contains left path
    pub dead_ : IsTrue (dead path)
    pub unreferred : is_referred_to g left path ≡ false
    pub least : (q : Path) → Contains left q → IsTrue (dead q) → is_referred_to g left q ≡ false
        → bytes_cmp q path ≡ Less → ⊥

  -- the next group is one such path, wherever there is a group, and there is one wherever a dead path is left
  pub next_is_unreferred : (group : List Path) → next_group g dead left ≡ Some group → IsDeletedSingly group
  next_is_unreferred group e = by (find is_deleted_singly left) refl e
    where
      same_group : (xs ys : List Path) → Some xs ≡ Some ys → ys ≡ xs
      same_group xs ys d = cc

      no_group : None ≡ Some group → ⊥
      no_group d = cc

      none_refers : (b : Bool) → IsTrue (not b) → b ≡ false
      none_refers true h = absurd (false≢true h)
      none_refers false h = refl

      second : find is_deleted_singly left ≡ None → (o : Option Path) → find dead left ≡ o
          → option_map (λ p. filter (λ q. reaches references_only g q p) left) o ≡ Some group → ⊥
      second none None f d = no_group d
      second none (Some x) f d = let at =
          found dead left x f in climbs none (length (filter (λ y. reaches references_only g y x) left)) x at.0 at.1
          (omega arith)

      by : (o : Option Path) → find is_deleted_singly left ≡ o
          → option_or (option_map (λ p. p ∷ []) o) (next_with_referrers g dead left) ≡ Some group
          → IsDeletedSingly group
      by None f d = absurd (second f (find dead left) refl d)
      by (Some p) f d =
          let at = found is_deleted_singly left p f in
          let parts = and_parts (dead p) (not (is_referred_to g left p)) at.1 in
          record {
            path = p;
            is = same_group (p ∷ []) group d;
            listed = at.0;
            dead_ = parts.0;
            unreferred = none_refers (is_referred_to g left p) parts.1;
            least =
                λ q c t none less. none_less is_deleted_singly left p q rise f c
                (and_from (dead q) (not (is_referred_to g left q)) t (ap not none)) less;
          }

  pub none_left : next_group g dead left ≡ None → (p : Path) → Contains left p → IsTrue (dead p) → ⊥
  none_left e p c d = by (find is_deleted_singly left) refl e
    where
      by : (o : Option Path) → find is_deleted_singly left ≡ o
          → option_or (option_map (λ x. x ∷ []) o) (next_with_referrers g dead left) ≡ None → ⊥
      by None f h = climbs f (length (filter (λ y. reaches references_only g y p) left)) p c d (omega arith)
      by (Some x) f h = false≢true (sym (ap is_some h))
