-- Up to a limit paths go one by one, each after all that refer to it, where no references make a cycle.
use Rattle.std.proofs.Common.{◌≡◌, ℕ, ◌+◌, ◌-◌, ◌<◌, ◌≤◌, List, [], ◌∷◌, ◌++◌, length, get_or, Bool, false, not, ◌||◌}
use Rattle.std.proofs.Common.{Some, sym, ap, arith, ◌∙◌, IsTrue, subst, inl, inr, ◌⊎◌, ◌↔◌}
use Rattle.std.specs.Prelude.{is_some, sum_by, IsFalse, Contains}
use Rattle.std.specs.List.Sorted.{IsStrictlySortedBy}
use Rattle.std.specs.declared.cmp.Ordering.TheVariants.{Less}
use Rattle.std.specs.Cmp.Lexicographic.{nat_list_cmp_total}
use Rattle.std.specs.FinMap as finite
use Rattle.std.proofs.lemmas.Bool.{cases_Bool, or_cases, or_left, or_right, and_from, and_parts, false≢true}
use Rattle.std.proofs.lemmas.Bool.{false_from_ne_true, not-true}
use Rattle.std.proofs.lemmas.List.{append-nil, append_assoc}
use Rattle.std.proofs.lemmas.List.Kept.{IsStrictlySortedBy-filter}
use Rattle.std.proofs.lemmas.List.Sums.{sum_by-append, sum_by-cons}
use Rattle.std.proofs.lemmas.List.Elements.{Contains-append_left, Contains-append_right, Contains-append_cases}
use Rattle.live.specs.Graph.{same, holds, references_only, is_valid, is_edge}
use Rattle.live.specs.Limited.{refers, is_referred_to, without, DeletesGroups, is_among}
use Rattle.live.proofs.Groups.{in_filter, filter_in, held_is, is_held}
use Rattle.live.proofs.Members.{at_head, behind, cases, no_member, any_from, some_of_any}
use Rattle.live.proofs.Reach.{same_is, same_itself}
use Rattle.paths.specs.Root.{bytes_cmp}
use Rattle.policy.specs.Settings.{Settings}
use Rattle.model.specs.World.{Path, Object, World, has, all_paths}
use Rattle.model.specs.Liveness.{graph_of, lives}
use Rattle.laws.specs.Changes.{Weigh}
use Rattle.laws.specs.OneByOne.{HasNoCycle, MayBeNext, ReferrersAreDeletedFirst}
use Rattle.model.proofs.MapMembers.{bytes_antisymmetric, key_listed, listed_key}
use Rattle.model.proofs.Worlds.{valid_is}
use Rattle.model.proofs.Deleting.{reference_edge, edge_reference}
use Rattle.laws.proofs.Freed.{keys_rise}
use Rattle.model.proofs.Limited.{upward, collects_by_bytes}
use Rattle.laws.proofs.Sources.{next_is_unreferred, none_left}

abbrev tail : List Path → List Path
tail [] = []
tail (x ∷ xs) = xs

nothing_more : (front back : List Path) (p : Path) → [] ≡ front ++ p ∷ back → ⊥
nothing_more front back p e =
    no_member p (subst (λ xs. Contains xs p) (sym e) (Contains-append_right front (p ∷ back) p (at_head p back)))

module _ (s : Settings) (w : World) (limit : ℕ) (size : Path → ℕ)
    (bytes : (p : Path) (o : Object) → finite.get w.objects p ≡ Some o → size p ≡ length o.nar)
    (acyclic : HasNoCycle w) where
  abbrev dead : Path → Bool
  dead p = not (lives s w p)

  weight : (ps : List Path) (n : ℕ) → Weigh w ps n → n ≡ sum_by size ps
  weight [] n h = h
  weight (p ∷ ps) n h =
      h.4 ∙ ap (λ k. length h.0.nar + k) (weight ps h.1 h.3) ∙ ap (λ k. k + sum_by size ps) (sym (bytes p h.0 h.2))
      ∙ sym (sum_by-cons size p ps)

  -- these are gone, those are left, and N bytes are still wanted
  record IsParted (deleted left : List Path) (wanted : ℕ) : Type 0 where
    valid : (p : Path) → Contains left p → IsTrue (has w p)
    parts : (p : Path) → IsTrue (has w p) → Contains deleted p ⊎ Contains left p
    apart : (p : Path) → Contains deleted p → Contains left p → ⊥
    wanted_is : wanted ≡ limit - sum_by size deleted
    rise : IsStrictlySortedBy bytes_cmp left

  may_go : (deleted left : List Path) (wanted : ℕ) → IsParted deleted left wanted → 0 < wanted → (p : Path)
      → Contains left p → IsTrue (dead p) → is_referred_to (graph_of w) left p ≡ false → MayBeNext s w limit deleted p
  may_go deleted left wanted parted more p c d none = record {
    present = parted.valid p c;
    dead = not-true (lives s w p) d;
    fresh = λ k. parted.apart p k c;
    referrers = λ q o e r other. elim (parted.parts q (ap is_some e)) as (λ _. Contains deleted q) [
      | inl k ↦ k
      | inr l ↦ absurd (false≢true (sym none ∙ any_from (λ y. refers (graph_of w) y p) left q l
          (and_from (not (same q p)) (is_edge references_only (graph_of w) q p)
          (ap not (false_from_ne_true (same q p) (λ k. other (same_is q p k))))
          (reference_edge w q p o e r (parted.valid p c)))))
    ];
    wanted = λ n h. let is = weight deleted n h in let rest = parted.wanted_is in omega arith;
  }

  -- what may go is left, is dead, and no other left refers to it
  is_left : (deleted left : List Path) (wanted : ℕ) → IsParted deleted left wanted → (q : Path)
      → MayBeNext s w limit deleted q → Contains left q × IsTrue (dead q) × (is_referred_to (graph_of w) left q ≡ false)
  is_left deleted left wanted parted q m = (
    elim (parted.parts q m.present) as (λ _. Contains left q) [ inl k ↦ absurd (m.fresh k) | inr l ↦ l ],
    ap not m.dead,
    false_from_ne_true (is_referred_to (graph_of w) left q) (λ h.
        let y = some_of_any (λ x. refers (graph_of w) x q) left h in
        let both = and_parts (not (same y.0 q)) (is_edge references_only (graph_of w) y.0 q) y.2 in
        let r = edge_reference w y.0 q both.1 in
        parted.apart y.0 (m.referrers y.0 r.0 r.1 r.2
        (λ is. false≢true (ap not (sym (ap (same y.0) (sym is) ∙ same_itself y.0)) ∙ both.0))) y.1),
  )

  one_removed : (deleted left : List Path) (wanted : ℕ) → IsParted deleted left wanted → (p : Path) → Contains left p
      → IsParted (deleted ++ p ∷ []) (without (p ∷ []) left) (wanted - sum_by size (p ∷ []))
  one_removed deleted left wanted parted p c = record {
    valid = λ q k. parted.valid q (in_filter (λ x. not (holds (p ∷ []) x)) left q k).0;
    parts =
        λ q v. elim (parted.parts q v) as (λ _. Contains (deleted ++ p ∷ []) q ⊎ Contains (without (p ∷ []) left) q) [
          | inl k ↦ inl (Contains-append_left deleted (p ∷ []) q k)
          | inr l ↦ elim (cases_Bool (holds (p ∷ []) q)) as (λ _. Contains (deleted ++ p ∷ []) q
              ⊎ Contains (without (p ∷ []) left) q) [
                | inl here ↦ inl (Contains-append_right deleted (p ∷ []) q (held_is (p ∷ []) q here))
                | inr out ↦ inr (filter_in (λ x. not (holds (p ∷ []) x)) left q l (ap not out))
              ]
        ];
    apart = λ q k l.
        let still = in_filter (λ x. not (holds (p ∷ []) x)) left q l in
        elim (Contains-append_cases deleted (p ∷ []) q k) as (λ _. ⊥) [
          | inl before ↦ parted.apart q before still.0
          | inr now ↦ false≢true (ap not (sym (is_held (p ∷ []) q now)) ∙ still.1)
        ];
    wanted_is = let all = sum_by-append size deleted (p ∷ []) in let was = parted.wanted_is in omega arith;
    rise = IsStrictlySortedBy-filter bytes_cmp (λ x. not (holds (p ∷ []) x)) left parted.rise;
  }

  -- the groups as paths in their order, once some are gone
  record Orders (deleted left : List Path) (groups : List (List Path)) : Type 0 where
    order : List Path
    each : (front back : List Path) (p : Path) → order ≡ front ++ p ∷ back → MayBeNext s w limit (deleted ++ front) p
    least : (front back : List Path) (p : Path) → order ≡ front ++ p ∷ back → (q : Path)
        → MayBeNext s w limit (deleted ++ front) q → bytes_cmp q p ≡ Less → ⊥
    taken : (p : Path) → IsTrue (is_among groups p) ↔ Contains order p
    enough : (n : ℕ) → Weigh w (deleted ++ order) n
        → (limit ≤ n) ⊎ ((p : Path) → Contains left p → IsTrue (dead p) → Contains order p)

  left_valid : (left : List Path) → ((p : Path) → Contains left p → IsTrue (has w p)) → (p : Path) → Contains left p
      → IsTrue (is_valid (graph_of w) p)
  left_valid left valid p c = valid_is w p ∙ valid p c

  at_the_end : (deleted left : List Path) (wanted : ℕ) → IsParted deleted left wanted
      → DeletesGroups (graph_of w) dead size left wanted [] → Orders deleted left []
  at_the_end deleted left wanted parted h = record {
    order = [];
    each = λ front back p e. absurd (nothing_more front back p e);
    least = λ front back p e. absurd (nothing_more front back p e);
    taken = λ p. ((λ k. absurd (false≢true k)), (λ c. absurd (no_member p c)));
    enough = λ n k. by h n (subst (λ ps. Weigh w ps n) (append-nil deleted) k);
  }
    where
      by : DeletesGroups (graph_of w) dead size left wanted [] → (n : ℕ) → Weigh w deleted n
          → (limit ≤ n) ⊎ ((p : Path) → Contains left p → IsTrue (dead p) → Contains [] p)
      by (inl none) n k = let is = weight deleted n k in let rest = parted.wanted_is in inl (omega arith)
      by (inr none) n k =
          inr (λ p c d. absurd (none_left (graph_of w) dead (upward s w limit) acyclic left
          (left_valid left parted.valid) parted.rise none p c d))

  one_more : (deleted left : List Path) (p : Path) (groups : List (List Path)) → MayBeNext s w limit deleted p
      → ((q : Path) → MayBeNext s w limit deleted q → bytes_cmp q p ≡ Less → ⊥)
      → Orders (deleted ++ p ∷ []) (without (p ∷ []) left) groups → Orders deleted left ((p ∷ []) ∷ groups)
  one_more deleted left p groups may first_of rest = record {
    order = p ∷ rest.order;
    each = each;
    least = least;
    taken = λ q. (
      (λ h. elim (or_cases (holds (p ∷ []) q) (is_among groups q) h) as (λ _. Contains (p ∷ rest.order) q) [
        | inl here ↦ subst (λ x. Contains (p ∷ rest.order) x) (is_it q here) (at_head p rest.order)
        | inr later ↦ behind p q rest.order ((rest.taken q).0 later)
      ]),
      (λ c. elim (cases p q rest.order c) as (λ _. IsTrue (holds (p ∷ []) q || is_among groups q)) [
        | inl is ↦ or_left (holds (p ∷ []) q) (is_among groups q)
            (is_held (p ∷ []) q (subst (λ x. Contains (p ∷ []) x) is (at_head p [])))
        | inr later ↦ or_right (holds (p ∷ []) q) (is_among groups q) ((rest.taken q).1 later)
      ]),
    );
    enough =
        λ n k. elim (rest.enough n (subst (λ ps. Weigh w ps n) (sym (append_assoc deleted (p ∷ []) rest.order))
        k)) as (λ _. (limit ≤ n) ⊎ ((q : Path) → Contains left q → IsTrue (dead q) → Contains (p ∷ rest.order) q)) [
          | inl le ↦ inl le
          | inr all ↦ inr (λ q c d. elim (cases_Bool (holds (p ∷ []) q)) as (λ _. Contains (p ∷ rest.order) q) [
            | inl here ↦ subst (λ x. Contains (p ∷ rest.order) x) (is_it q here) (at_head p rest.order)
            | inr out ↦ behind p q rest.order (all q (filter_in (λ x. not (holds (p ∷ []) x)) left q c (ap not out)) d)
          ])
        ];
  }
    where
      is_it : (q : Path) → IsTrue (holds (p ∷ []) q) → p ≡ q
      is_it q here =
          elim (cases p q [] (held_is (p ∷ []) q here)) as (λ _. p ≡ q) [
            | inl is ↦ is
            | inr nothing ↦ absurd (no_member q nothing)
          ]

      each : (front back : List Path) (q : Path) → p ∷ rest.order ≡ front ++ q ∷ back
          → MayBeNext s w limit (deleted ++ front) q
      each [] back q e =
          subst (λ (x : Path). MayBeNext s w limit (deleted ++ []) x) (ap (λ (xs : List Path). get_or xs 0 p) e)
          (subst (λ (ps : List Path). MayBeNext s w limit ps p) (sym (append-nil deleted)) may)
      each (y ∷ front) back q e =
          let first : p ≡ y = ap (λ (xs : List Path). get_or xs 0 p) e in
          subst (λ (x : Path). MayBeNext s w limit (deleted ++ x ∷ front) q) first
          (subst (λ (ps : List Path). MayBeNext s w limit ps q) (append_assoc deleted (p ∷ []) front)
          (rest.each front back q (ap tail e)))

      least : (front back : List Path) (q : Path) → p ∷ rest.order ≡ front ++ q ∷ back → (x : Path)
          → MayBeNext s w limit (deleted ++ front) x → bytes_cmp x q ≡ Less → ⊥
      least [] back q e x m less =
          first_of x (subst (λ (ps : List Path). MayBeNext s w limit ps x) (append-nil deleted) m)
          (subst (λ (y : Path). bytes_cmp x y ≡ Less) (sym (ap (λ (xs : List Path). get_or xs 0 p) e)) less)
      least (y ∷ front) back q e x m less =
          let first : p ≡ y = ap (λ (xs : List Path). get_or xs 0 p) e in
          rest.least front back q (ap tail e) x
          (subst (λ (ps : List Path). MayBeNext s w limit ps x) (sym (append_assoc deleted (p ∷ []) front))
          (subst (λ (z : Path). MayBeNext s w limit (deleted ++ z ∷ front) x) (sym first) m)) less

  orders : (groups : List (List Path)) (deleted left : List Path) (wanted : ℕ) → IsParted deleted left wanted
      → DeletesGroups (graph_of w) dead size left wanted groups → Orders deleted left groups
  orders [] deleted left wanted parted h = at_the_end deleted left wanted parted h
  orders (group ∷ groups) deleted left wanted parted h =
      let x =
      next_is_unreferred (graph_of w) dead (upward s w limit) acyclic left (left_valid left parted.valid)
      parted.rise group h.1 in
      let rest =
      orders groups (deleted ++ x.path ∷ []) (without (x.path ∷ []) left) (wanted - sum_by size (x.path ∷ []))
      (one_removed deleted left wanted parted x.path x.listed)
      (subst (λ (one : List Path). DeletesGroups (graph_of w) dead size (without one left) (wanted - sum_by size one)
      groups) x.is h.2) in
      subst (λ (one : List Path). Orders deleted left (one ∷ groups)) (sym x.is)
      (one_more deleted left x.path groups
      (may_go deleted left wanted parted h.0 x.path x.listed x.dead_ x.unreferred)
      (λ q m less. let at = is_left deleted left wanted parted q m in x.least q at.0 at.1 at.2 less) rest)

pub referrers_are_deleted_first : ReferrersAreDeletedFirst
referrers_are_deleted_first s w c ignores limit a new h acyclic =
    let goes = collects_by_bytes s w c ignores limit a new h in
    let all = orders s w limit goes.size goes.bytes acyclic goes.groups [] (all_paths w) limit (record {
      valid = λ p k. listed_key nat_list_cmp_total w.objects p k;
      parts = λ p v. inr (key_listed bytes_antisymmetric w.objects p v);
      apart = λ p k l. no_member p k;
      wanted_is = omega arith;
      rise = keys_rise bytes_cmp w.objects;
    }) goes.takes in
    record {
      order = all.order;
      each = all.each;
      least = all.least;
      removed =
          λ p v. ((λ k. (all.taken p).0 ((goes.removed p v).0 k)), (λ k. (goes.removed p v).1 ((all.taken p).1 k)));
      enough =
          λ n k. elim (all.enough n k) as (λ _. (limit ≤ n)
          ⊎ ((p : Path) → IsTrue (has w p) → IsFalse (lives s w p) → Contains all.order p)) [
            | inl le ↦ inl le
            | inr each ↦ inr (λ p v d. each p (key_listed bytes_antisymmetric w.objects p v) (ap not d))
          ];
    }
