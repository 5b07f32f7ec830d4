-- What is reported of a root that was set.
use Rattle.std.proofs.Common.{◌≡◌, ℕ, List, [], ◌∷◌, map, Bool, true, false, not, refl, sym, ap, ◌∙◌, IsTrue, subst}
use Rattle.std.proofs.Common.{inl, inr}
use Rattle.std.specs.Prelude.{Contains, codes, IsFalse, if◌then◌else◌}
use Rattle.std.specs.List.{filter}
use Rattle.std.specs.FinMap as finite
use Rattle.live.specs.Reach.{reaches}
use Rattle.live.proofs.Members.{cases, no_member, at_head, behind}
use Rattle.live.proofs.Reach.{decided}
use Rattle.paths.specs.Root.{Root}
use Rattle.policy.specs.Settings.{Settings}
use Rattle.policy.specs.Caller.{Caller}
use Rattle.policy.specs.Class.{class_of}
use Rattle.policy.specs.Rules.{is_trusted}
use Rattle.policy.specs.declared.kinds.Class.{Class}
use Rattle.model.specs.World.{Pair, Temporary, World, has, permanent_root, user_root, generation_root, runtime_root}
use Rattle.model.specs.World.{temporary_root, roots_of}
use Rattle.model.specs.Reply.{Answer, generation}
use Rattle.model.specs.Liveness.{keep_of, graph_of, roots_that_keep}
use Rattle.model.specs.Seen.{plain, censored, same_pair, each_once, seen_root, seen}
use Rattle.laws.specs.ListedRoots.{Shows, ListsRoot, ListsHidden, RootsSetAreListed}
use Rattle.model.proofs.Filtered.{in_mapped, in_filtered}
use Rattle.model.proofs.EveryRoot.{each_root}
use Rattle.model.proofs.Worlds.{valid_is}
use Rattle.model.proofs.Passed.{met, passed}
use Rattle.laws.proofs.Sights.{same_pair_is}
use Rattle.laws.proofs.ProfileChanges.{sets}
use Rattle.laws.proofs.RootChanges.{sets_permanent, sets_user_roots, replaces, adds_for_sessions}

-- ---- what is in a list of roots is seen in it

still_once : (ps : List Pair) (p : Pair) → Contains ps p → Contains (each_once ps) p
still_once [] p c = absurd (no_member p c)
still_once (x ∷ xs) p c =
    elim (cases x p xs c) as (λ _. Contains (x ∷ filter (λ q. not (same_pair x q)) (each_once xs)) p) [
      | inl is ↦ subst (λ y. Contains (x ∷ filter (λ q. not (same_pair x q)) (each_once xs)) y) is
          (at_head x (filter (λ q. not (same_pair x q)) (each_once xs)))
      | inr later ↦ by (same_pair x p) refl (still_once xs p later)
    ]
  where
    by : (b : Bool) → same_pair x p ≡ b → Contains (each_once xs) p
        → Contains (x ∷ filter (λ q. not (same_pair x q)) (each_once xs)) p
    by true e k =
        subst (λ y. Contains (x ∷ filter (λ q. not (same_pair x q)) (each_once xs)) y) (same_pair_is x p e)
        (at_head x (filter (λ q. not (same_pair x q)) (each_once xs)))
    by false e k =
        behind x p (filter (λ q. not (same_pair x q)) (each_once xs))
        (in_filtered (λ q. not (same_pair x q)) (each_once xs) p k (ap not e))

is_seen : (class : Class) (rs : List Root) (r : Root) → Contains rs r → Contains (seen class rs) (seen_root class r)
is_seen class rs r c = by (is_trusted class)
  where
    by : (b : Bool) → Contains (if b then map plain rs else each_once (map plain (map censored rs)))
        (plain (if b then r else censored r))
    by true = in_mapped plain rs r c
    by false =
        still_once (map plain (map censored rs)) (plain (censored r))
        (in_mapped plain (map censored rs) (censored r) (in_mapped censored rs r c))

-- ---- a root that is there is reported

module _ (s : Settings) (w : World) (c : Caller) (r : Root) (exists : Contains (roots_of w) r) where
  reaches_itself : IsTrue (has w r.target) → IsTrue (reaches (keep_of s) (graph_of w) r.target r.target)
  reaches_itself v =
      (decided (keep_of s) (graph_of w) r.target r.target).1
      (record { valid = valid_is w r.target ∙ v; steps = []; leads = refl })

  of_path : IsTrue (has w r.target) → Contains (roots_that_keep s w r.target) r
  of_path v =
      in_filtered (λ (x : Root). reaches (keep_of s) (graph_of w) x.target r.target) (roots_of w) r exists
      (reaches_itself v)

  -- as the caller sees it
  reported : (pair : Pair) → seen_root (class_of s c) r ≡ pair → pair.1 ≡ r.target → ListsRoot s w c pair
  reported pair is target = record {
    all =
        λ a new h. subst (λ x. Shows x pair) (sym h.2)
        (subst (Contains (seen (class_of s c) (roots_of w))) is (is_seen (class_of s c) (roots_of w) r exists));
    of =
        λ a new h. subst (λ x. Shows x pair) (sym h.2)
        (subst (λ p. Contains (seen (class_of s c) (roots_that_keep s w p)) pair) (sym target)
        (subst (Contains (seen (class_of s c) (roots_that_keep s w r.target))) is
        (is_seen (class_of s c) (roots_that_keep s w r.target) r
        (of_path (ap (has w) (sym target) ∙ met (has w pair.1) _ (passed _ [] h.1).0)))));
  }

  by_trusted : IsTrue (is_trusted (class_of s c)) → ListsRoot s w c (r.label, r.target)
  by_trusted h = reported (r.label, r.target) (ap (λ b. plain (if b then r else censored r)) h) refl

  by_others : IsFalse (is_trusted (class_of s c)) → ListsRoot s w c (plain (censored r))
  by_others h = reported (plain (censored r)) (ap (λ b. plain (if b then r else censored r)) h) refl

  -- a label that nobody hides is reported to each caller
  by_all : plain (censored r) ≡ (r.label, r.target) → ListsRoot s w c (r.label, r.target)
  by_all open_ = reported (r.label, r.target) (by (is_trusted (class_of s c))) refl
    where
      by : (b : Bool) → plain (if b then r else censored r) ≡ (r.label, r.target)
      by true = refl
      by false = open_

  -- one that is hidden isn't
  hidden : plain (censored r) ≡ (codes "{censored}", r.target) → ListsHidden s w c r.label r.target
  hidden is = record {
    trusted = by_trusted;
    others = λ h. subst (λ pair. ListsRoot s w c pair) is (by_others h);
  }

number_in : Answer → ℕ
number_in (generation n) = n
number_in _ = 0

pub roots_set_are_reported : RootsSetAreListed
unfolding number_in
roots_set_are_reported s w c mid next = record {
  permanent =
      λ name p a h. by_all s mid next (permanent_root (name, p))
      ((each_root mid).permanent name p (sets_permanent s w c name p a mid h).1) refl;
  user =
      λ owner name p a h. by_all s mid next (user_root ((owner, name), p))
      ((each_root mid).user (owner, name) p (sets_user_roots s w c owner name p a mid h).1) refl;
  profile = λ owner name p n h.
      let x = sets s w c owner name p (generation n) mid h in
      by_all s mid next (generation_root (owner, name) (n, p))
      ((each_root mid).generation (owner, name) x.now n p x.change.exists
      (ap (finite.get x.now.generations) (ap number_in x.reported) ∙ x.target)) refl;
  runtime =
      λ pairs a h pair listed valid. hidden s mid next (runtime_root pair)
      ((each_root mid).runtime pair (((replaces s w c pairs a mid h).roots pair).1 (listed, valid))) refl;
  temporary = λ owner session p a h.
      let t : Temporary = record { owner = owner; session = session; path = p } in
      hidden s mid next (temporary_root t)
      ((each_root mid).temporary t (adds_for_sessions s w c owner session p a mid h).1.present) refl;
}
