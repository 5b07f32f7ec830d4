-- What a request that is done makes of a root.
use Rattle.std.proofs.Common.{◌≡◌, ℕ, List, not, ◌&&◌, cond, None, refl, sym, ap, arith, ◌∙◌, IsTrue, subst}
use Rattle.std.specs.Prelude.{◌==◌, is_some, Contains}
use Rattle.std.specs.Ordering.{eq_by_cmp, is_eq}
use Rattle.std.specs.Cmp.{tied_itself}
use Rattle.std.specs.List.{filter}
use Rattle.std.specs.FinMap as finite
use Rattle.std.specs.Cmp.Lexicographic.{nat_list_cmp_total}
use Rattle.std.proofs.lemmas.Bool.{and_parts, eqb-true, eq-eqb, false_from_ne_true}
use Rattle.std.proofs.lemmas.List.{length-map}
use Rattle.live.specs.Graph.{same}
use Rattle.live.proofs.Members.{any_from}
use Rattle.live.proofs.Order.{contains_key-set_of}
use Rattle.live.proofs.Reach.{same_is}
use Rattle.model.specs.World.{Pair, pair_cmp, Temporary, temporary_cmp, World, has}
use Rattle.model.specs.Request.{drop_permanent, drop_user_root}
use Rattle.model.specs.Reply.{runtime_count, temporary_count}
use Rattle.model.specs.Tests.{tests}
use Rattle.model.specs.Effects.{valid_pairs, with_runtime, with_temporary, is_of_session, of_session, without_session}
use Rattle.laws.specs.RootChanges.{SetsPermanent, DropsPermanent, SetsUserRoots, DropsUserRoots, ReplacesRuntime}
use Rattle.laws.specs.RootChanges.{ReplacesAsSpecified, AddsTemporary, AddsForSessions, Ends, EndsSessions}
use Rattle.laws.specs.RootChanges.{ChangesPermanent, ChangesUserRoot}
use Rattle.model.proofs.MapMembers.{bytes_antisymmetric, pair_total, pair_antisymmetric, temporary_total}
use Rattle.model.proofs.MapMembers.{temporary_antisymmetric, key_listed, listed_key, retained_key}
use Rattle.model.proofs.MapMembers.{contains_key-inserted, set_member}
use Rattle.laws.proofs.Changed.{at_inserted, next_to_inserted, at_removed, next_to_removed}
use Rattle.model.proofs.Filtered.{in_filtered, from_filtered}
use Rattle.laws.proofs.Freed.{keys_rise}
use Rattle.model.proofs.Passed.{met, each_passed}

-- ---- permanent and user roots

pub sets_permanent : SetsPermanent
sets_permanent s w c name p a new h = (
  h.2,
  ap (λ (u : World). finite.get u.permanent name) h.3
      ∙ at_inserted nat_list_cmp_total bytes_antisymmetric w.permanent name p,
  subst (λ (u : World). ChangesPermanent w u name) (sym h.3) (record {
    others = λ other apart. next_to_inserted nat_list_cmp_total bytes_antisymmetric w.permanent name p other apart;
    objects = refl;
    user_roots = refl;
    profiles = refl;
    runtime = refl;
    temporary = refl;
  }),
)

pub drops_permanent : DropsPermanent
drops_permanent s w c name a new h = (
  h.2,
  met (finite.contains_key w.permanent name) _
      (each_passed (tests s w (drop_permanent name)) h.1 _ (1, omega arith, refl)),
  ap (λ (u : World). finite.contains_key u.permanent name) h.3
      ∙ at_removed nat_list_cmp_total bytes_antisymmetric w.permanent name,
  subst (λ (u : World). ChangesPermanent w u name) (sym h.3) (record {
    others = λ other apart. next_to_removed nat_list_cmp_total bytes_antisymmetric w.permanent name other apart;
    objects = refl;
    user_roots = refl;
    profiles = refl;
    runtime = refl;
    temporary = refl;
  }),
)

pub sets_user_roots : SetsUserRoots
sets_user_roots s w c owner name p a new h = (
  h.2,
  ap (λ (u : World). finite.get u.user_roots (owner, name)) h.3
      ∙ at_inserted pair_total pair_antisymmetric w.user_roots (owner, name) p,
  subst (λ (u : World). ChangesUserRoot w u (owner, name)) (sym h.3) (record {
    others = λ other apart. next_to_inserted pair_total pair_antisymmetric w.user_roots (owner, name) p other apart;
    objects = refl;
    permanent = refl;
    profiles = refl;
    runtime = refl;
    temporary = refl;
  }),
)

pub drops_user_roots : DropsUserRoots
drops_user_roots s w c owner name a new h = (
  h.2,
  met (finite.contains_key w.user_roots (owner, name)) _
      (each_passed (tests s w (drop_user_root owner name)) h.1 _ (1, omega arith, refl)),
  ap (λ (u : World). finite.contains_key u.user_roots (owner, name)) h.3
      ∙ at_removed pair_total pair_antisymmetric w.user_roots (owner, name),
  subst (λ (u : World). ChangesUserRoot w u (owner, name)) (sym h.3) (record {
    others = λ other apart. next_to_removed pair_total pair_antisymmetric w.user_roots (owner, name) other apart;
    objects = refl;
    permanent = refl;
    profiles = refl;
    runtime = refl;
    temporary = refl;
  }),
)

-- ---- runtime roots

module _ (w : World) (pairs : List Pair) where
  given : (pair : Pair) → IsTrue (finite.contains_key (valid_pairs w pairs) pair)
      → Contains pairs pair × IsTrue (has w pair.1)
  given pair h =
      from_filtered (λ (x : Pair). has w x.1) pairs pair
      (set_member pair_total pair_antisymmetric (filter (λ (x : Pair). has w x.1) pairs) pair h)

  taken : (pair : Pair) → Contains pairs pair × IsTrue (has w pair.1)
      → IsTrue (finite.contains_key (valid_pairs w pairs) pair)
  taken pair h =
      contains_key-set_of pair_total (filter (λ (x : Pair). has w x.1) pairs) pair
      ∙ any_from (eq_by_cmp pair_cmp pair) (filter (λ (x : Pair). has w x.1) pairs) pair
      (in_filtered (λ (x : Pair). has w x.1) pairs pair h.0 h.1) (ap is_eq (tied_itself pair_total pair))

  replaced : ReplacesRuntime w pairs (runtime_count (finite.len (valid_pairs w pairs)))
      (with_runtime w (valid_pairs w pairs))
  replaced = record {
    reported = refl;
    roots = λ pair. (given pair, taken pair);
    objects = refl;
    permanent = refl;
    user_roots = refl;
    profiles = refl;
    temporary = refl;
  }

pub replaces : ReplacesAsSpecified
replaces s w c pairs a new h =
    subst (λ x. ReplacesRuntime w pairs x new) (sym h.2)
    (subst (λ (u : World). ReplacesRuntime w pairs (runtime_count (finite.len (valid_pairs w pairs))) u) (sym h.3)
    (replaced w pairs))

-- ---- what sessions keep

added : (w : World) (t : Temporary) → AddsTemporary w t (with_temporary w t)
added w t = record {
  present = contains_key-inserted temporary_total temporary_antisymmetric w.temporary t tt;
  others =
      λ other apart. ap is_some (next_to_inserted temporary_total temporary_antisymmetric w.temporary t tt other apart);
  rest = record { objects = refl; permanent = refl; user_roots = refl; profiles = refl; runtime = refl };
}

pub adds_for_sessions : AddsForSessions
adds_for_sessions s w c owner session p a new h = (
  h.2,
  subst (λ (u : World). AddsTemporary w (record { owner = owner; session = session; path = p }) u) (sym h.3)
      (added w (record { owner = owner; session = session; path = p })),
)

module _ (w : World) (owner : List ℕ) (session : ℕ) where
  of : (t : Temporary) → IsTrue (is_of_session owner session t) → (t.owner ≡ owner) × (t.session ≡ session)
  of t h =
      let both = and_parts (same t.owner owner) (t.session == session) h in
      (same_is t.owner owner both.0, eqb-true t.session session both.1)

  is_of : (t : Temporary) → t.owner ≡ owner → t.session ≡ session → IsTrue (is_of_session owner session t)
  is_of t o n =
      ap (λ b. b && t.session == session) (ap (λ x. same x owner) o ∙ ap is_eq (tied_itself nat_list_cmp_total owner))
      ∙ eq-eqb t.session session n

  left : (t : Temporary) → finite.contains_key (without_session w owner session).temporary t
      ≡ is_some (cond (not (is_of_session owner session t)) (finite.get w.temporary t) None)
  left t =
      ap is_some (finite.get-retain_keys w.temporary (λ y. not (is_of_session owner session y)) t
      (λ y e. ap (λ z. not (is_of_session owner session z)) (sym (temporary_antisymmetric t y e))))

  ends : Ends w owner session (temporary_count (finite.len (of_session w owner session)))
      (without_session w owner session)
  ends = record {
    removed = finite.keys (of_session w owner session);
    reported =
        ap temporary_count (finite.len-entries (of_session w owner session)
        ∙ sym (length-map (finite.entries (of_session w owner session)) (λ (e : Temporary × Unit {0}). e.0)));
    listed = λ t. (
      (λ k. let parts = retained_key temporary_antisymmetric w.temporary (is_of_session owner session) t
          (listed_key temporary_total (of_session w owner session) t k) in let both = of t parts.0 in
          (parts.1, both.0, both.1)),
      (λ k. key_listed temporary_antisymmetric (of_session w owner session) t
          (ap is_some (finite.get-retain_keys w.temporary (is_of_session owner session) t
          (λ y e. ap (is_of_session owner session) (sym (temporary_antisymmetric t y e)))
          ∙ ap (λ b. cond b (finite.get w.temporary t) None) (is_of t k.1 k.2)) ∙ k.0)),
    );
    in_order = keys_rise temporary_cmp (of_session w owner session);
    deleted = λ t o n. left t ∙ ap (λ b. is_some (cond (not b) (finite.get w.temporary t) None)) (is_of t o n);
    others =
        λ t apart. left t ∙ ap (λ b. is_some (cond (not b) (finite.get w.temporary t) None))
        (false_from_ne_true (is_of_session owner session t) (λ k. apart (of t k)));
    rest = record { objects = refl; permanent = refl; user_roots = refl; profiles = refl; runtime = refl };
  }

pub ends_sessions : EndsSessions
ends_sessions s w c owner session a new h =
    subst (λ x. Ends w owner session x new) (sym h.2)
    (subst (λ (u : World). Ends w owner session (temporary_count (finite.len (of_session w owner session))) u)
    (sym h.3) (ends w owner session))
