-- What lives in a world: listings, first roots, and the targets of roots.
use Rattle.std.proofs.Common.{◌≡◌, ◌↔◌, ℕ, List, [], ◌∷◌, ◌++◌, map, Bool, true, false, cond, not, Some, None, Option}
use Rattle.std.proofs.Common.{option_map, refl, sym, ap, ◌∙◌, IsTrue, subst, inl, inr, ◌⊎◌, slice_get}
use Rattle.std.specs.Prelude.{Contains}
use Rattle.std.specs.List.{filter, find, flat_map}
use Rattle.std.specs.FinMap as finite
use Rattle.std.specs.Cmp.{nat_cmp_total}
use Rattle.std.specs.Cmp.Lexicographic.{nat_list_cmp_total}
use Rattle.std.proofs.lemmas.Bool.{false≢true}
use Rattle.std.proofs.lemmas.Option.{slice_get-map}
use Rattle.std.proofs.lemmas.List.Elements.{Contains-append_cases}
use Rattle.paths.specs.Root.{Root, in_order}
use Rattle.live.specs.Reach.{reaches}
use Rattle.live.specs.Live.{IsLive, IsDead}
use Rattle.live.proofs.Live.{live_decided, first_roots}
use Rattle.live.proofs.Order.{member_ordered, ordered_member, same_order}
use Rattle.policy.specs.Settings.{Settings}
use Rattle.policy.specs.Class.{class_of}
use Rattle.policy.specs.Rules.{is_trusted}
use Rattle.policy.specs.declared.kinds.Class.{Class}
use Rattle.model.specs.World.{Path, Pair, World, has, all_paths, permanent_root, user_root, generation_root}
use Rattle.model.specs.World.{generation_roots, runtime_root, temporary_root, explicit_roots, runtime_roots}
use Rattle.model.specs.World.{temporary_roots, roots_of}
use Rattle.model.specs.Sound.{IsSound}
use Rattle.model.specs.Liveness.{graph_of, keep_of, lives, live_paths, dead_paths, roots_that_keep}
use Rattle.model.specs.Seen.{plain, censored, each_once, seen, seen_root}
use Rattle.model.specs.Lives.{HasExactLiveness, TargetsLive, FirstIsShownFirst}
use Rattle.model.proofs.MapMembers.{bytes_antisymmetric, pair_total, key_listed, listed_key, listed_entry}
use Rattle.model.proofs.MapMembers.{temporary_total}
use Rattle.model.proofs.Filtered.{in_filtered, from_filtered, from_mapped, from_joined}
use Rattle.model.proofs.Worlds.{valid_is, live_of, live_has}

-- ---- listings

is_not : (b : Bool) → IsTrue (not b) → IsTrue b → ⊥
is_not true h g = false≢true h
is_not false h g = false≢true g

not_of : (b : Bool) → (IsTrue b → ⊥) → IsTrue (not b)
not_of true h = absurd (h refl)
not_of false h = refl

module _ (s : Settings) (w : World) (p : Path) where
  Live : Type 0
  Live = IsLive (keep_of s) (graph_of w) (roots_of w) p

  Dead : Type 0
  Dead = IsDead (keep_of s) (graph_of w) (roots_of w) p

  decided : IsTrue (lives s w p) ↔ Live
  unfolding Live
  decided = live_decided (keep_of s) (graph_of w) (roots_of w) p

  to_live : Contains (live_paths s w) p → Live
  to_live c = decided.0 (from_filtered (lives s w) (all_paths w) p c).1

  from_live : Live → Contains (live_paths s w) p
  from_live l =
      let t = decided.1 l in
      in_filtered (lives s w) (all_paths w) p (key_listed bytes_antisymmetric w.objects p (live_has s w p t)) t

  to_dead : Contains (dead_paths s w) p → Dead
  unfolding Live Dead
  to_dead c =
      let parts = from_filtered (λ x. not (lives s w x)) (all_paths w) p c in
      record {
        valid = valid_is w p ∙ listed_key nat_list_cmp_total w.objects p parts.0;
        unreached = λ l. is_not (lives s w p) parts.1 (decided.1 l);
      }

  from_dead : Dead → Contains (dead_paths s w) p
  unfolding Live Dead
  from_dead d =
      in_filtered (λ x. not (lives s w x)) (all_paths w) p
      (key_listed bytes_antisymmetric w.objects p (sym (valid_is w p) ∙ d.valid))
      (not_of (lives s w p) (λ t. d.unreached (decided.0 t)))

  either : Contains (all_paths w) p → Contains (live_paths s w) p ⊎ Contains (dead_paths s w) p
  either c = by (lives s w p) refl
    where
      by : (b : Bool) → lives s w p ≡ b → Contains (live_paths s w) p ⊎ Contains (dead_paths s w) p
      by true e = inl (in_filtered (lives s w) (all_paths w) p c e)
      by false e = inr (in_filtered (λ x. not (lives s w x)) (all_paths w) p c (ap not e))

  one_of : Contains (live_paths s w) p ⊎ Contains (dead_paths s w) p → Contains (all_paths w) p
  one_of (inl c) = (from_filtered (lives s w) (all_paths w) p c).0
  one_of (inr c) = (from_filtered (λ x. not (lives s w x)) (all_paths w) p c).0

  pub as_said : HasExactLiveness s w p
  unfolding Live Dead
  as_said = record {
    decided = decided;
    live = (to_live, from_live);
    dead = (to_dead, from_dead);
    parts = (either, one_of);
    first = first_roots (keep_of s) (graph_of w) (roots_of w) p;
  }

-- ---- targets

module _ (dir : List ℕ) (w : World) (sound : IsSound dir w) where
  permanents : (r : Root) → Contains (map permanent_root (finite.entries w.permanent)) r → IsTrue (has w r.target)
  permanents r c =
      let x = from_mapped permanent_root (finite.entries w.permanent) r c in
      subst (λ (y : Root). IsTrue (has w y.target)) x.2
      (sound.permanent_target x.0.0 x.0.1 (listed_entry nat_list_cmp_total w.permanent x.0 x.1))

  users : (r : Root) → Contains (map user_root (finite.entries w.user_roots)) r → IsTrue (has w r.target)
  users r c =
      let x = from_mapped user_root (finite.entries w.user_roots) r c in
      subst (λ (y : Root). IsTrue (has w y.target)) x.2
      (sound.user_root_target x.0.0 x.0.1 (listed_entry pair_total w.user_roots x.0 x.1))

  generations : (r : Root) → Contains (flat_map generation_roots (finite.entries w.profiles)) r
      → IsTrue (has w r.target)
  generations r c =
      let x = from_joined generation_roots (finite.entries w.profiles) r c in
      let y = from_mapped (generation_root x.0.0) (finite.entries x.0.1.generations) r x.2 in
      let profile = sound.profiles x.0.0 x.0.1 (listed_entry pair_total w.profiles x.0 x.1) in
      subst (λ (z : Root). IsTrue (has w z.target)) y.2
      (profile.targets y.0.0 y.0.1 (listed_entry nat_cmp_total x.0.1.generations y.0 y.1))

  runtimes : (r : Root) → Contains (runtime_roots w) r → IsTrue (has w r.target)
  runtimes r c =
      let x = from_mapped runtime_root (finite.keys w.runtime) r c in
      subst (λ (y : Root). IsTrue (has w y.target)) x.2
      (sound.runtime_target x.0 (listed_key pair_total w.runtime x.0 x.1))

  temporaries : (r : Root) → Contains (temporary_roots w) r → IsTrue (has w r.target)
  temporaries r c =
      let x = from_mapped temporary_root (finite.keys w.temporary) r c in
      subst (λ (y : Root). IsTrue (has w y.target)) x.2
      (sound.temporary_target x.0 (listed_key temporary_total w.temporary x.0 x.1))

  remaining : (r : Root) → Contains (explicit_roots w) r → IsTrue (has w r.target)
  remaining r c =
      elim (Contains-append_cases (map permanent_root (finite.entries w.permanent)
      ++ map user_root (finite.entries w.user_roots)) (flat_map generation_roots (finite.entries w.profiles)) r
      c) as (λ _. IsTrue (has w r.target)) [
        | inl named ↦ elim (Contains-append_cases (map permanent_root (finite.entries w.permanent))
            (map user_root (finite.entries w.user_roots)) r named) as (λ _. IsTrue (has w r.target)) [
              | inl here ↦ permanents r here
              | inr here ↦ users r here
            ]
        | inr here ↦ generations r here
      ]

  pub target_valid : (r : Root) → Contains (roots_of w) r → IsTrue (has w r.target)
  target_valid r c =
      elim (Contains-append_cases (explicit_roots w ++ runtime_roots w) (temporary_roots w) r
      (member_ordered (explicit_roots w ++ runtime_roots w ++ temporary_roots w) r c)) as (λ _. IsTrue
      (has w r.target)) [
        | inl early ↦ elim (Contains-append_cases (explicit_roots w) (runtime_roots w) r early) as (λ _. IsTrue
            (has w r.target)) [
              | inl here ↦ remaining r here
              | inr here ↦ runtimes r here
            ]
        | inr here ↦ temporaries r here
      ]

pub targets_live : TargetsLive
targets_live s w sound r c =
    let valid = target_valid s.store_dir w sound r c in
    (valid, live_of s w r r.target c (record { valid = valid_is w r.target ∙ valid; steps = []; leads = refl }))

-- ---- the first line of a listing

pub first_found : {X : Type 0} (f : X → Bool) (xs : List X) → slice_get (filter f xs) 0 ≡ find f xs
first_found f [] = refl
first_found {X} f (x ∷ xs) = by (f x) (first_found f xs)
  where
    by : (b : Bool) → slice_get (filter f xs) 0 ≡ find f xs
        → slice_get (cond b (x ∷ filter f xs) (filter f xs)) 0 ≡ cond b (Some x) (find f xs)
    by true later = refl
    by false later = later

first_once : (ps : List Pair) → slice_get (each_once ps) 0 ≡ slice_get ps 0
first_once [] = refl
first_once (p ∷ ps) = refl

mapped_twice : {X Y Z : Type 0} (f : X → Y) (g : Y → Z) (o : Option X)
    → option_map g (option_map f o) ≡ option_map (λ x. g (f x)) o
mapped_twice f g None = refl
mapped_twice f g (Some x) = refl

first_seen : (class : Class) (rs : List Root)
    → slice_get (seen class rs) 0 ≡ option_map (seen_root class) (slice_get rs 0)
first_seen class rs =
    elim (is_trusted class) as (λ b. slice_get (cond b (map plain rs) (each_once (map plain (map censored rs)))) 0
    ≡ option_map (λ r. plain (cond b r (censored r))) (slice_get rs 0)) [
      | true ↦ slice_get-map plain rs 0
      | false ↦ first_once (map plain (map censored rs)) ∙ slice_get-map plain (map censored rs) 0
          ∙ ap (option_map plain) (slice_get-map censored rs 0) ∙ mapped_twice censored plain (slice_get rs 0)
    ]

-- putting the roots of a world in order again changes nothing
pub ordered_again : (w : World) → in_order (roots_of w) ≡ roots_of w
ordered_again w =
    same_order (roots_of w) (explicit_roots w ++ runtime_roots w ++ temporary_roots w)
    (λ r c. member_ordered (explicit_roots w ++ runtime_roots w ++ temporary_roots w) r c)
    (λ r c. ordered_member (explicit_roots w ++ runtime_roots w ++ temporary_roots w) r c)

pub first_shown : FirstIsShownFirst
first_shown s w c p =
    let reached : Root → Bool = λ r. reaches (keep_of s) (graph_of w) r.target p in
    first_seen (class_of s c) (roots_that_keep s w p)
    ∙ ap (option_map (seen_root (class_of s c)))
    (first_found reached (roots_of w) ∙ ap (find reached) (sym (ordered_again w)))
