-- What a collection up to a limit takes.
use Rattle.std.proofs.Common.{◌≡◌, ℕ, ◌-◌, List, [], ◌∷◌, length, map, Bool, true, false, not, ◌&&◌, ◌||◌, cond, Some}
use Rattle.std.proofs.Common.{None, Option, option_map, refl, sym, ap, ◌∙◌, IsTrue, subst, inl, inr, ◌⊎◌}
use Rattle.std.specs.Prelude.{is_some, nat_lt}
use Rattle.std.specs.List.{filter, find, list_any, sum_by}
use Rattle.std.specs.Option.{option_map_or, option_or}
use Rattle.std.specs.Ordering.{is_lt}
use Rattle.std.specs.Cmp.Lexicographic.{nat_list_cmp_total}
use Rattle.std.specs.FinMap as finite
use Rattle.std.specs.FinMap.Entries.{is_sorted, below_all, same_entries}
use Rattle.std.proofs.lemmas.Bool.{false≢true, and_parts, and_from, or_cases, or_left, or_right, not-true}
use Rattle.std.proofs.lemmas.Bool.{not_from_false, false_from_ne_true}
use Rattle.paths.specs.Root.{bytes_cmp}
use Rattle.live.specs.Graph.{Path, Links, same, holds, Graph, references_only, is_valid, is_edge}
use Rattle.live.specs.Reach.{reaches, Reaches}
use Rattle.live.specs.Limited.{DeletesGroups, refers, is_referred_to, next_with_referrers, next_group, without}
use Rattle.live.specs.Limited.{groups_by, limited_groups}
use Rattle.live.proofs.Members.{found, any_from, some_of_any}
use Rattle.live.proofs.Reach.{same_is, same_itself, holds_valid, decided, goes_on, reach_kept}
use Rattle.live.proofs.Live.{live_decided}
use Rattle.live.proofs.UniqueGroups.{one_answer}
use Rattle.policy.specs.Settings.{Settings}
use Rattle.model.specs.World.{Object, World, has, all_paths, roots_of}
use Rattle.model.specs.Reply.{done, denied, refused, failed}
use Rattle.model.specs.Liveness.{links_of, linked, graph_of, keep_of, lives, size_of, collected_paths}
use Rattle.model.specs.Effects.{keeping}
use Rattle.model.specs.Collection.{CollectsSome, CollectsUpToALimit}
use Rattle.model.specs.Collection.{CollectsByBytes, DeletesByBytes}
use Rattle.model.proofs.MapMembers.{bytes_antisymmetric}
use Rattle.model.proofs.Worlds.{valid_is, live_of, get-keeping, kept_if, found_in}
use Rattle.model.proofs.Deleting.{reference_edge}
use lib.Dec.{T}

-- whether a path is in one of the groups
abbrev pub in_groups : List (List Path) → Path → Bool
in_groups groups p = list_any (λ group. holds group p) groups

-- ---- the keys of the graph

same_below : (k : Path) (es : List (Path × Object))
    → below_all bytes_cmp k (map (λ (e : Path × Object). (e.0, links_of e.1)) es) ≡ below_all bytes_cmp k es
same_below k [] = refl
same_below k (e ∷ es) = ap (λ b. is_lt (bytes_cmp k e.0) && b) (same_below k es)

same_sorted : (es : List (Path × Object))
    → is_sorted bytes_cmp (map (λ (e : Path × Object). (e.0, links_of e.1)) es) ≡ is_sorted bytes_cmp es
same_sorted [] = refl
same_sorted (e ∷ es) = λ i. same_below e.0 es i && same_sorted es i

same_keys : (es : List (Path × Object))
    → map (λ (e : Path × Links). e.0) (map (λ (e : Path × Object). (e.0, links_of e.1)) es)
    ≡ map (λ (e : Path × Object). e.0) es
same_keys [] = refl
same_keys (e ∷ es) = ap (λ ks. e.0 ∷ ks) (same_keys es)

pub keys_of_graph : (w : World) → finite.keys (graph_of w) ≡ all_paths w
unfolding linked
keys_of_graph w =
    let es = map (λ (e : Path × Object). (e.0, links_of e.1)) (finite.entries w.objects) in
    let sorted = subst T (sym (same_sorted (finite.entries w.objects))) (finite.entries_sorted w.objects) in
    ap (map (λ (e : Path × Links). e.0))
    (same_entries bytes_cmp nat_list_cmp_total bytes_antisymmetric
    (finite.entries (finite.from_entries {R = bytes_cmp} es)) es (finite.entries_sorted (finite.from_entries es))
    sorted
    (λ q. sym (finite.get-entries (finite.from_entries es) q) ∙ finite.get-from_entries nat_list_cmp_total es q))
    ∙ same_keys (finite.entries w.objects)

-- ---- lists of paths

pub passing : (test : Path → Bool) (p : Path) (ps : List Path) → IsTrue (holds (filter test ps) p)
    → IsTrue (test p) × IsTrue (holds ps p)
passing test p [] h = absurd (false≢true h)
passing test p (x ∷ xs) h = by (test x) refl h (passing test p xs)
  where
    by : (b : Bool) → test x ≡ b → IsTrue (holds (cond b (x ∷ filter test xs) (filter test xs)) p)
        → (IsTrue (holds (filter test xs) p) → IsTrue (test p) × IsTrue (holds xs p))
        → IsTrue (test p) × IsTrue (holds (x ∷ xs) p)
    by true t h later =
        elim (or_cases (same p x) (holds (filter test xs) p) h) as (λ _. IsTrue (test p) × IsTrue (holds (x ∷ xs) p)) [
          | inl is ↦ (ap test (same_is p x is) ∙ t, or_left (same p x) (holds xs p) is)
          | inr in_ ↦ let rest = later in_ in (rest.0, or_right (same p x) (holds xs p) rest.1)
        ]
    by false t h later = let rest = later h in (rest.0, or_right (same p x) (holds xs p) rest.1)

pub passed : (test : Path → Bool) (p : Path) (ps : List Path) → IsTrue (test p) → IsTrue (holds ps p)
    → IsTrue (holds (filter test ps) p)
passed test p [] t h = absurd (false≢true h)
passed test p (x ∷ xs) t h = by (test x) refl (or_cases (same p x) (holds xs p) h) (λ k. passed test p xs t k)
  where
    by : (b : Bool) → test x ≡ b → IsTrue (same p x) ⊎ IsTrue (holds xs p)
        → (IsTrue (holds xs p) → IsTrue (holds (filter test xs) p))
        → IsTrue (holds (cond b (x ∷ filter test xs) (filter test xs)) p)
    by true e (inl is) later = or_left (same p x) _ is
    by true e (inr in_) later = or_right (same p x) _ (later in_)
    by false e (inl is) later = absurd (false≢true (sym e ∙ ap test (sym (same_is p x is)) ∙ t))
    by false e (inr in_) later = later in_

-- ---- the groups

module _ (g : Graph) (dead : Path → Bool) (size : Path → ℕ)
    (upward : (q p : Path) → Reaches references_only g q p → IsTrue (dead p) → IsTrue (dead q)) where
  -- what the next group has, and what it is
  abbrev pub IsNext : List Path → List Path → Type 0
  IsNext left group =
      ((p : Path) → IsTrue (holds group p) → IsTrue (dead p) × IsTrue (holds left p))
      × ((q r : Path) → IsTrue (holds left q) → (IsTrue (holds group q) → ⊥) → IsTrue (holds group r)
      → IsTrue (is_edge references_only g q r) → IsTrue (is_valid g q) → ⊥)

  single_is : (left : List Path) (p : Path) → find (λ x. dead x && not (is_referred_to g left x)) left ≡ Some p
      → IsNext left (p ∷ [])
  single_is left p e =
      let at = found (λ x. dead x && not (is_referred_to g left x)) left p e in
      let parts = and_parts (dead p) (not (is_referred_to g left p)) at.1 in (
        (λ x h. let is = only x h in (
          ap dead is ∙ parts.0,
          ap (holds left) is ∙ any_from (same p) left p at.0 (same_itself p),
        )),
        (λ q r in_ out here edge valid.
            let is = only r here in
            let apart : same q p ≡ false = false_from_ne_true (same q p) (λ s. out (or_left (same q p) false s)) in
            let referred : IsTrue (refers g q p) =
            and_from (not (same q p)) (is_edge references_only g q p) (not_from_false (same q p) apart)
            (ap (is_edge references_only g q) (sym is) ∙ edge) in
            let x = some_of_any (same q) left in_ in
            let listed : IsTrue (is_referred_to g left p) =
            any_from (λ y. refers g y p) left x.0 x.1
            (ap (λ y. refers g y p) (sym (same_is q x.0 x.2)) ∙ referred) in
            false≢true (sym (not-true (is_referred_to g left p) parts.1) ∙ listed)),
      )
    where
      only : (x : Path) → IsTrue (same x p || false) → x ≡ p
      only x h =
          elim (or_cases (same x p) false h) as (λ _. x ≡ p) [ inl s ↦ same_is x p s | inr f ↦ absurd (false≢true f) ]

  with_is : (left : List Path) (p : Path) → find dead left ≡ Some p
      → IsNext left (filter (λ q. reaches references_only g q p) left)
  with_is left p e =
      let at = found dead left p e in (
        (λ x h. let parts = passing (λ q. reaches references_only g q p) x left h in
            (upward x p ((decided references_only g x p).0 parts.0) at.1, parts.1)),
        (λ q r in_ out here edge valid.
            let parts = passing (λ x. reaches references_only g x p) r left here in
            let step : Reaches references_only g q r = record { valid = valid; steps = r ∷ []; leads = (edge, refl) } in
            out (passed (λ x. reaches references_only g x p) q left
            ((decided references_only g q p).1
            (goes_on references_only g q r p step ((decided references_only g r p).0 parts.0))) in_)),
      )

  next_is : (left group : List Path) → next_group g dead left ≡ Some group → IsNext left group
  next_is left group e = by (find (λ x. dead x && not (is_referred_to g left x)) left) refl e
    where
      second : (o : Option Path) → find dead left ≡ o
          → option_map (λ p. filter (λ q. reaches references_only g q p) left) o ≡ Some group → IsNext left group
      second None f e = absurd (false≢true (ap is_some e))
      second (Some p) f e = let is : filter (λ q. reaches references_only g q p) left ≡ group =
          cc in subst (IsNext left) is (with_is left p f)

      by : (o : Option Path) → find (λ x. dead x && not (is_referred_to g left x)) left ≡ o
          → option_or (option_map (λ p. p ∷ []) o) (next_with_referrers g dead left) ≡ Some group → IsNext left group
      by None f e = second (find dead left) refl e
      by (Some p) f e = let is : p ∷ [] ≡ group = cc in subst (IsNext left) is (single_is left p f)

  -- what the groups are of some paths left: dead, and referred to by none that is left at last
  abbrev pub AreChosen : List Path → List (List Path) → Type 0
  AreChosen left groups =
      ((p : Path) → IsTrue (in_groups groups p) → IsTrue (dead p) × IsTrue (holds left p))
      × ((q r : Path) → IsTrue (holds left q) → (IsTrue (in_groups groups q) → ⊥) → IsTrue (in_groups groups r)
      → IsTrue (is_edge references_only g q r) → IsTrue (is_valid g q) → ⊥)

  none_chosen : (left : List Path) → AreChosen left []
  none_chosen left = ((λ p h. absurd (false≢true h)), (λ q r in_ out here edge valid. false≢true here))

  more_chosen : (left group : List Path) (groups : List (List Path)) → IsNext left group
      → AreChosen (without group left) groups → AreChosen left (group ∷ groups)
  more_chosen left group groups next rest = (
    (λ p h. elim (or_cases (holds group p) (in_groups groups p) h) as (λ _. IsTrue (dead p) × IsTrue (holds left p)) [
      | inl first ↦ next.0 p first
      | inr later ↦ let in_ = rest.0 p later in (in_.0, (passing (λ x. not (holds group x)) p left in_.1).1)
    ]),
    (λ q r in_ out here edge valid. elim (or_cases (holds group r) (in_groups groups r) here) as (λ _. ⊥) [
      | inl first ↦ next.1 q r in_ (λ h. out (or_left (holds group q) (in_groups groups q) h)) first edge valid
      | inr later ↦
          rest.1 q r (passed (λ x. not (holds group x)) q left
          (not_from_false (holds group q)
          (false_from_ne_true (holds group q) (λ h. out (or_left (holds group q) (in_groups groups q) h)))) in_)
          (λ h. out (or_right (holds group q) (in_groups groups q) h)) later edge valid
    ]),
  )

  taken : (turns left : List Path) (wanted : ℕ) → AreChosen left (groups_by g dead size turns left wanted)
  unfolding groups_by
  taken [] left wanted = none_chosen left
  taken (turn ∷ turns) left wanted =
      by (nat_lt 0 wanted) (next_group g dead left) refl
      (λ (group : List Path). taken turns (without group left) (wanted - sum_by size group))
    where
      by : (b : Bool) (o : Option (List Path)) → next_group g dead left ≡ o
          → ((group : List Path) → AreChosen (without group left)
          (groups_by g dead size turns (without group left) (wanted - sum_by size group)))
          → AreChosen left (cond b (option_map_or
          (λ group. group ∷ groups_by g dead size turns (without group left) (wanted - sum_by size group)) o [])
          [])
      by false o e later = none_chosen left
      by true None e later = none_chosen left
      by true (Some group) e later =
          more_chosen left group (groups_by g dead size turns (without group left) (wanted - sum_by size group))
          (next_is left group e) (later group)

  pub all_consumed : (limit : ℕ) → AreChosen (finite.keys g) (limited_groups g dead size limit)
  all_consumed limit = taken (finite.keys g) (finite.keys g) limit

-- ---- a collection

module _ (s : Settings) (w : World) (limit : ℕ) where
  -- whether it leaves a path
  abbrev pub leaves : Path → Bool
  leaves p = not (holds (collected_paths s w (Some limit)) p)

  groups : List (List Path)
  groups = limited_groups (graph_of w) (λ p. not (lives s w p)) (size_of w) limit

  pub upward : (q p : Path) → Reaches references_only (graph_of w) q p → IsTrue (not (lives s w p))
      → IsTrue (not (lives s w q))
  upward q p r d = not_from_false (lives s w q) (false_from_ne_true (lives s w q) (λ h.
      let l = (live_decided (keep_of s) (graph_of w) (roots_of w) q).0 h in
      let on =
      goes_on (keep_of s) (graph_of w) l.root.target q p l.reaches (reach_kept (keep_of s) (graph_of w) q p r) in
      false≢true (sym (not-true (lives s w p) d) ∙ live_of s w l.root p l.listed on)))

  in_one : (p : Path) → IsTrue (holds (collected_paths s w (Some limit)) p) → IsTrue (in_groups groups p)
  unfolding groups
  in_one p h = (passing (in_groups groups) p (finite.keys (graph_of w)) h).0

  goes_then : (p : Path) → IsTrue (has w p) → IsTrue (in_groups groups p)
      → IsTrue (holds (collected_paths s w (Some limit)) p)
  unfolding groups
  goes_then p v h =
      passed (in_groups groups) p (finite.keys (graph_of w)) h (holds_valid (graph_of w) p (valid_is w p ∙ v))

  pub live_left : (p : Path) → IsTrue (lives s w p) → IsTrue (leaves p)
  unfolding groups
  live_left p h = not_from_false _ (false_from_ne_true _ (λ deleted.
      let t = (all_consumed (graph_of w) (λ x. not (lives s w x)) (size_of w) upward limit).0 p (in_one p deleted) in
      false≢true (sym (not-true (lives s w p) t.0) ∙ h)))

  pub reference_stays : (p : Path) (o : Object) → finite.get (keeping w leaves).objects p ≡ Some o → (r : Path)
      → IsTrue (finite.contains_key o.references r) → IsTrue (has w r) → IsTrue (has (keeping w leaves) r)
  unfolding groups
  reference_stays p o e r c h =
      let was = found_in w.objects leaves p o e in
      let present : IsTrue (has w p) = ap is_some was.1 in
      let valid : IsTrue (is_valid (graph_of w) p) = valid_is w p ∙ present in
      let left : holds (collected_paths s w (Some limit)) p ≡ false = not-true _ was.0 in
      let out : IsTrue (in_groups groups p) → ⊥ = λ k. false≢true (sym left ∙ goes_then p present k) in
      let stays : IsTrue (leaves r) = not_from_false _ (false_from_ne_true _ (λ deleted.
      (all_consumed (graph_of w) (λ x. not (lives s w x)) (size_of w) upward limit).1 p r
      (holds_valid (graph_of w) p valid) out (in_one r deleted) (reference_edge w p r o was.1 c h) valid)) in
      ap is_some (kept_if w.objects leaves r stays) ∙ h

  -- what is reported is what is deleted
  pub is_consumed : Path → Bool
  is_consumed p = in_groups groups p

  pub reported : collected_paths s w (Some limit) ≡ filter is_consumed (all_paths w)
  unfolding groups is_consumed
  reported = ap (filter (in_groups groups)) (keys_of_graph w)

  pub deleted_or_stays : (p : Path) → IsTrue (has w p) → is_consumed p ≡ not (leaves p)
  unfolding is_consumed
  deleted_or_stays p v = by (in_groups groups p) (holds (collected_paths s w (Some limit)) p) (goes_then p v) (in_one p)
    where
      by : (a b : Bool) → (IsTrue a → IsTrue b) → (IsTrue b → IsTrue a) → a ≡ not (not b)
      by true b f g = sym (ap (λ x. not (not x)) (f refl))
      by false true f g = g refl
      by false false f g = refl

  goes : (p : Path) → IsTrue (has w p) → has (keeping w leaves) p ≡ leaves p
  goes p v = ap is_some (get-keeping w.objects leaves p) ∙ by (leaves p)
    where
      by : (b : Bool) → is_some (cond b (finite.get w.objects p) None) ≡ b
      by true = v
      by false = refl

  by_bytes : DeletesByBytes s w limit (keeping w leaves)
  unfolding groups is_consumed
  by_bytes = record {
    size = size_of w;
    bytes = λ p o e. ap (λ (x : Option Object). option_map_or (λ y. length y.nar) x 0) e;
    groups = groups;
    takes =
        subst (λ (ps : List Path). DeletesGroups (graph_of w) (λ p. not (lives s w p)) (size_of w) ps limit groups)
        (keys_of_graph w) ((one_answer (graph_of w) (λ p. not (lives s w p)) (size_of w) limit groups).1 refl);
    removed = λ p v. (
      (λ h. deleted_or_stays p v ∙ ap not (sym (goes p v) ∙ h)),
      (λ h. goes p v ∙ turned (leaves p) (sym (deleted_or_stays p v) ∙ h)),
    );
  }
    where
      turned : (b : Bool) → IsTrue (not b) → b ≡ false
      turned b h = not-true b h

  still : (p : Path) → IsTrue (has (keeping w leaves) p)
      → finite.get (keeping w leaves).objects p ≡ finite.get w.objects p
  still p h = by (leaves p) refl (sym (ap is_some (get-keeping w.objects leaves p)) ∙ h)
    where
      by : (b : Bool) → leaves p ≡ b → IsTrue (is_some (cond b (finite.get w.objects p) None))
          → finite.get (keeping w leaves).objects p ≡ finite.get w.objects p
      by true e k = kept_if w.objects leaves p e
      by false e k = absurd (false≢true k)

-- nothing is deleted where no bytes are wanted
no_groups : (g : Graph) (dead : Path → Bool) (size : Path → ℕ) (turns left : List Path)
    → groups_by g dead size turns left 0 ≡ []
unfolding groups_by
no_groups g dead size [] left = refl
no_groups g dead size (turn ∷ turns) left = refl

all_left : (s : Settings) (w : World) (p : Path) → IsTrue (leaves s w 0 p)
all_left s w p = not_from_false _ (false_from_ne_true _ (λ h.
    false≢true (ap (λ gs. in_groups gs p)
    (sym (no_groups (graph_of w) (λ x. not (lives s w x)) (size_of w) (finite.keys (graph_of w))
    (finite.keys (graph_of w))))
    ∙ (passing (in_groups (limited_groups (graph_of w) (λ x. not (lives s w x)) (size_of w) 0)) p
    (finite.keys (graph_of w)) h).0)))

collected_some : (s : Settings) (w : World) (limit : ℕ) → CollectsSome s w limit (keeping w (leaves s w limit))
collected_some s w limit = record {
  kept = λ p h. kept_if w.objects (leaves s w limit) p (live_left s w limit p h);
  left = still s w limit;
  references = reference_stays s w limit;
  roots = record { permanent = refl; user_roots = refl; profiles = refl; runtime = refl; temporary = refl };
  none =
      λ e p. kept_if w.objects (leaves s w limit) p
      (subst (λ (n : ℕ). IsTrue (leaves s w n p)) (sym e) (all_left s w p));
}

pub collects_up_to : CollectsUpToALimit
collects_up_to s w c ignores limit (done a) new h d =
    subst (λ (u : World). CollectsSome s w limit u) (sym h.3) (collected_some s w limit)
collects_up_to s w c ignores limit (denied rule root) new h d = absurd d
collects_up_to s w c ignores limit (refused r) new h d = absurd d
collects_up_to s w c ignores limit (failed f) new h d = absurd d

pub collects_by_bytes : CollectsByBytes
collects_by_bytes s w c ignores limit a new h =
    subst (λ (u : World). DeletesByBytes s w limit u) (sym h.3) (by_bytes s w limit)
