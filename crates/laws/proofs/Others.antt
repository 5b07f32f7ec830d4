-- What callers do to what others own.
use Rattle.std.proofs.Common.{◌≡◌, ℕ, List, [], Bool, true, false, not, ◌&&◌, ◌||◌, cond, Some, None, Option, refl, sym}
use Rattle.std.proofs.Common.{ap, arith, ◌∙◌, IsTrue, subst, inl, inr, ◌⊎◌}
use Rattle.std.specs.Prelude.{◌==◌, is_some, IsFalse}
use Rattle.std.specs.Str.{bytes_eq}
use Rattle.std.specs.List.{list_any}
use Rattle.std.specs.FinMap as finite
use Rattle.std.proofs.lemmas.Bool.{false≢true, eqb-true, eq-eqb}
use Rattle.std.proofs.lemmas.Option.{same_Some}
use Rattle.std.proofs.lemmas.Slice.Eq.{bytes_eq-Decides}
use Rattle.policy.specs.Settings.{Settings}
use Rattle.policy.specs.Caller.{Caller}
use Rattle.policy.specs.Class.{class_of}
use Rattle.policy.specs.Operation.{owner_of, drops_owned}
use Rattle.policy.specs.Rules.{is_stranger, is_trusted, is_own}
use Rattle.policy.specs.Rules as policy
use Rattle.policy.specs.declared.kinds.Class.{Class}
use Rattle.policy.specs.declared.kinds.Class.TheVariants.{Stranger, Allowed, Trusted}
use Rattle.policy.specs.declared.kinds.Rule.TheVariants.{TrustedImport, OwnRoot}
use Rattle.model.specs.World.{Path, Pair, Profile, World}
use Rattle.model.specs.Request.{Request, add_text, add_source, import_object, set_permanent, drop_permanent}
use Rattle.model.specs.Request.{replace_runtime, set_user_root, drop_user_root, set_profile, rollback, switch}
use Rattle.model.specs.Request.{delete_generation, add_temp, end_session, collect}
use Rattle.model.specs.Reply.{changed, denied, refused, failed, done}
use Rattle.model.specs.Liveness.{lives}
use Rattle.model.specs.Verdict.{operation_of, named_in, verdict}
use Rattle.model.specs.Adds.{added_text, added_source, added_import}
use Rattle.model.specs.Profiles.{profile_at, set_to, rolled_back, switched}
use Rattle.model.specs.Tests.{refusal}
use Rattle.model.specs.Effects.{is_of_session, effect}
use Rattle.laws.specs.Generations.{LosesGeneration}
use Rattle.laws.specs.Reliance.{KeepsOfOwner}
use Rattle.laws.specs.Others.{HasNoMore, OnlyLoses, OthersOnlyLose, TrustedMay, OwnersMay}
use Rattle.model.proofs.MapMembers.{pair_total, pair_antisymmetric, temporary_antisymmetric, removed_entry}
use Rattle.model.proofs.MapMembers.{retained_key}
use Rattle.laws.proofs.ProfileChanges.{deletes_generations}
use Rattle.laws.proofs.Reliance.{allowed, all_same, add_of_owner, profile_of_other, set_of_other, added_of_other}

-- ---- what another owns only loses

kept_loses : (owner : List ℕ) (w new : World) → KeepsOfOwner owner w new → OnlyLoses owner w new
kept_loses owner w new k = record {
  user_roots = λ name t e. sym (k.user_roots name) ∙ e;
  profiles = λ name. ap is_some (k.profiles name);
  generations =
      λ name now e. (
        now,
        sym (k.profiles name) ∙ e,
        record { current = refl; current_target = refl; generations = λ n t g. g },
      );
  temporary = λ session p h. sym (k.temporary session p) ∙ h;
}

none_lost : (owner : List ℕ) (w : World) → OnlyLoses owner w w
none_lost owner w = kept_loses owner w w (all_same owner w)

-- a call on what an owner has that drops nothing is the owner's
own_only : (s : Settings) (w : World) (c : Caller) (q : Request) (owner : List ℕ) → verdict s w c q ≡ None
    → owner_of (operation_of q) ≡ Some owner
    → drops_owned (operation_of q) ≡ false → owner ≡ c.name
own_only s w c q owner v e d =
    (bytes_eq-Decides owner c.name).0
    (by (bytes_eq owner c.name) (drops_owned (operation_of q)) (is_trusted (class_of s c)) d
    (ap (λ (o : Option (List ℕ)). is_own c o || (drops_owned (operation_of q) && is_trusted (class_of s c))) (sym e)
    ∙ allowed s w c q v OwnRoot (4, omega arith, refl)))
  where
    by : (a d t : Bool) → d ≡ false → IsTrue (a || (d && t)) → IsTrue a
    by true d t f h = refl
    by false true t f h = absurd (false≢true (sym f))
    by false false t f h = absurd (false≢true h)

root_dropped : (owner other_owner name : List ℕ) (w : World)
    → OnlyLoses owner w (record w { user_roots = finite.remove w.user_roots (other_owner, name) })
root_dropped owner other_owner name w = record {
  user_roots = λ n t e. removed_entry pair_total pair_antisymmetric w.user_roots (other_owner, name) (owner, n) t e;
  profiles = λ n. refl;
  generations = λ n now e. (now, e, record { current = refl; current_target = refl; generations = λ m t g. g });
  temporary = λ session p h. h;
}

session_ended : (owner other_owner : List ℕ) (session : ℕ) (w : World)
    → OnlyLoses owner w (record w {
      temporary =
          finite.retain_keys w.temporary (λ t. not (is_of_session other_owner session t));
    })
session_ended owner other_owner session w = record {
  user_roots = λ n t e. e;
  profiles = λ n. refl;
  generations = λ n now e. (now, e, record { current = refl; current_target = refl; generations = λ m t g. g });
  temporary =
      λ k p h. (retained_key temporary_antisymmetric w.temporary (λ t. not (is_of_session other_owner session t))
      (record { owner = owner; session = k; path = p }) h).1;
}

same_pair : (a b : Pair) → (a ≡ b) ⊎ (a ≡ b → ⊥)
same_pair a b = by (bytes_eq a.0 b.0) (bytes_eq a.1 b.1) refl refl
  where
    by : (x y : Bool) → bytes_eq a.0 b.0 ≡ x → bytes_eq a.1 b.1 ≡ y → (a ≡ b) ⊎ (a ≡ b → ⊥)
    by true true h k = let first = (bytes_eq-Decides a.0 b.0).0 h in let second =
        (bytes_eq-Decides a.1 b.1).0 k in inl (λ i. (first i, second i))
    by false y h k = inr (λ e. false≢true (sym h ∙ (bytes_eq-Decides a.0 b.0).1 (ap (λ (p : Pair). p.0) e)))
    by true false h k = inr (λ e. false≢true (sym k ∙ (bytes_eq-Decides a.1 b.1).1 (ap (λ (p : Pair). p.1) e)))

module _ (w new : World) (owned : Pair) (n : ℕ) (h : LosesGeneration w owned n new) where
  no_more : HasNoMore h.was h.now
  no_more = record {
    current = h.current;
    current_target = ap (finite.get h.now.generations) h.current ∙ h.others h.was.current h.not_current;
    generations = λ m t e. older m t e;
  }
    where
      older : (m : ℕ) (t : Path) → finite.get h.now.generations m ≡ Some t → finite.get h.was.generations m ≡ Some t
      older m t e = by (m == n) refl
        where
          by : (b : Bool) → (m == n) ≡ b → finite.get h.was.generations m ≡ Some t
          by true is =
              absurd (false≢true (sym h.deleted
              ∙ ap (λ k. is_some (finite.get h.now.generations k)) (sym (eqb-true m n is)) ∙ ap is_some e))
          by false apart = sym (h.others m (λ is. false≢true (sym apart ∙ eq-eqb m n is))) ∙ e

  generation_lost : (owner : List ℕ) → OnlyLoses owner w new
  generation_lost owner = record {
    user_roots = λ name t e. ap (λ m. finite.get m (owner, name)) (sym h.change.user_roots) ∙ e;
    profiles = λ name. exists name (same_pair (owner, name) owned);
    generations = λ name now e. before name now e (same_pair (owner, name) owned);
    temporary =
        λ session p e. ap (λ m. finite.contains_key m (record { owner = owner; session = session; path = p }))
        (sym h.change.temporary) ∙ e;
  }
    where
      exists : (name : List ℕ) → ((owner, name) ≡ owned) ⊎ ((owner, name) ≡ owned → ⊥)
          → finite.contains_key new.profiles (owner, name) ≡ finite.contains_key w.profiles (owner, name)
      exists name (inl is) =
          ap (λ k. finite.contains_key new.profiles k) is ∙ ap is_some h.change.exists ∙ sym (ap is_some h.existed)
          ∙ ap (λ k. finite.contains_key w.profiles k) (sym is)
      exists name (inr other) = ap is_some (h.change.others (owner, name) other)

      before : (name : List ℕ) (now : Profile) → finite.get new.profiles (owner, name) ≡ Some now
          → ((owner, name) ≡ owned) ⊎ ((owner, name) ≡ owned → ⊥)
          → (was : Profile) × (finite.get w.profiles (owner, name) ≡ Some was) × HasNoMore was now
      before name now e (inl is) = (
        h.was,
        ap (λ k. finite.get w.profiles k) is ∙ h.existed,
        subst (λ (x : Profile). HasNoMore h.was x)
            (same_Some h.now now (sym h.change.exists ∙ ap (λ k. finite.get new.profiles k) (sym is) ∙ e)) no_more,
      )
      before name now e (inr other) = (
        now,
        sym (h.change.others (owner, name) other) ∙ e,
        record { current = refl; current_target = refl; generations = λ m t g. g },
      )

loses : (s : Settings) (w : World) (c : Caller) (q : Request) → verdict s w c q ≡ None → refusal s w q ≡ None
    → (owner : List ℕ) → (owner ≡ c.name → ⊥) → OnlyLoses owner w (effect s w q)
loses s w c (add_text name refs contents) v e owner apart =
    kept_loses owner w _ (add_of_owner w (added_text s.store_dir name refs contents) owner)
loses s w c (add_source name refs b) v e owner apart =
    kept_loses owner w _ (add_of_owner w (added_source s.store_dir name refs b) owner)
loses s w c (import_object i) v e owner apart = kept_loses owner w _ (add_of_owner w (added_import s.store_dir i) owner)
loses s w c (set_user_root other_owner name p) v e owner apart =
    kept_loses owner w _ (set_of_other w owner other_owner
    (λ is. apart (is ∙ own_only s w c (set_user_root other_owner name p) other_owner v refl refl)) name p)
loses s w c (drop_user_root other_owner name) v e owner apart = root_dropped owner other_owner name w
loses s w c (set_profile other_owner name p) v e owner apart =
    kept_loses owner w _ (profile_of_other w owner other_owner
    (λ is. apart (is ∙ own_only s w c (set_profile other_owner name p) other_owner v refl refl)) name
    (set_to (profile_at w (other_owner, name)) p))
loses s w c (rollback other_owner name) v e owner apart =
    kept_loses owner w _ (profile_of_other w owner other_owner
    (λ is. apart (is ∙ own_only s w c (rollback other_owner name) other_owner v refl refl)) name
    (rolled_back (profile_at w (other_owner, name))))
loses s w c (switch other_owner name n) v e owner apart =
    kept_loses owner w _ (profile_of_other w owner other_owner
    (λ is. apart (is ∙ own_only s w c (switch other_owner name n) other_owner v refl refl)) name
    (switched (profile_at w (other_owner, name)) n))
loses s w c (delete_generation other_owner name n) v e owner apart =
    generation_lost w (effect s w (delete_generation other_owner name n)) (other_owner, name) n
    (deletes_generations s w c other_owner name n changed (effect s w (delete_generation other_owner name n))
    (v, e, refl, refl)).1 owner
loses s w c (add_temp other_owner session p) v e owner apart =
    kept_loses owner w _ (added_of_other w owner other_owner
    (λ is. apart (is ∙ own_only s w c (add_temp other_owner session p) other_owner v refl refl)) session p)
loses s w c (end_session other_owner session) v e owner apart = session_ended owner other_owner session w
loses s w c (collect ignores None) v e owner apart =
    kept_loses owner w _ (record { user_roots = λ n. refl; profiles = λ n. refl; temporary = λ k p. refl })
loses s w c (collect ignores (Some limit)) v e owner apart =
    kept_loses owner w _ (record { user_roots = λ n. refl; profiles = λ n. refl; temporary = λ k p. refl })
loses s w c _ v e owner apart =
    kept_loses owner w _ (record { user_roots = λ n. refl; profiles = λ n. refl; temporary = λ k p. refl })

pub others_only_lose : OthersOnlyLose
others_only_lose s w c q (done a) new step owner apart =
    subst (λ (u : World). OnlyLoses owner w u) (sym step.3) (loses s w c q step.0 step.1 owner apart)
others_only_lose s w c q (denied rule root) new step owner apart =
    subst (λ (u : World). OnlyLoses owner w u) (sym step.2) (none_lost owner w)
others_only_lose s w c q (refused r) new step owner apart =
    subst (λ (u : World). OnlyLoses owner w u) (sym step.2) (none_lost owner w)
others_only_lose s w c q (failed f) new step owner apart =
    subst (λ (u : World). OnlyLoses owner w u) (sym step.1) (none_lost owner w)

-- ---- what the rules leave to whom

or_true : (b : Bool) → b || true ≡ true
or_true true = refl
or_true false = refl

-- a trusted caller is allowed what nothing forbids but that another owns it, if it drops that
passes : (s : Settings) (w : World) (c : Caller) (q : Request) → class_of s c ≡ Trusted
    → policy.verdict Trusted c (operation_of q) false ≡ None → named_in q ≡ [] → verdict s w c q ≡ None
passes s w c q is free none =
    ap (λ class. policy.verdict class c (operation_of q) (list_any (lives s w) (named_in q))) is
    ∙ ap (λ (named : List Path). policy.verdict Trusted c (operation_of q) (list_any (lives s w) named)) none
    ∙ free

class_trusted : (k : Class) → IsTrue (is_trusted k) → k ≡ Trusted
class_trusted Stranger h = absurd (false≢true h)
class_trusted Allowed h = absurd (false≢true h)
class_trusted Trusted h = refl

unless_own : (b : Bool) → cond (not (b || true)) (Some OwnRoot) None ≡ None
unless_own true = refl
unless_own false = refl

no_matter_address : (b : Bool) → cond (not (not (not b) || true)) (Some TrustedImport) None ≡ None
no_matter_address true = refl
no_matter_address false = refl

pub trusted_may : TrustedMay
trusted_may s w c h =
    let is = class_trusted (class_of s c) h in
    record {
      import = λ i. passes s w c (import_object i) is (no_matter_address (is_some i.ca)) refl;
      set_permanent = λ name p. passes s w c (set_permanent name p) is refl refl;
      drop_permanent = λ name. passes s w c (drop_permanent name) is refl refl;
      runtime = λ pairs. passes s w c (replace_runtime pairs) is refl refl;
      user_root = λ owner name. passes s w c (drop_user_root owner name) is (unless_own (bytes_eq owner c.name)) refl;
      generation =
          λ owner name n. passes s w c (delete_generation owner name n) is (unless_own (bytes_eq owner c.name)) refl;
      session = λ owner session. passes s w c (end_session owner session) is (unless_own (bytes_eq owner c.name)) refl;
    }

mine : (d b : Bool) → b ≡ true → cond (not (b || d)) (Some OwnRoot) None ≡ None
mine d b e = ap (λ x. cond (not (x || d)) (Some OwnRoot) None) e

-- each class but that of strangers
known_passes : (s : Settings) (w : World) (c : Caller) (q : Request) (k : Class) → class_of s c ≡ k
    → IsFalse (is_stranger k)
    → policy.verdict Allowed c (operation_of q) false ≡ None → policy.verdict Trusted c (operation_of q) false ≡ None
    → named_in q ≡ [] → verdict s w c q ≡ None
known_passes s w c q Stranger is h a t none = absurd (false≢true (sym h))
known_passes s w c q Allowed is h a t none =
    ap (λ class. policy.verdict class c (operation_of q) (list_any (lives s w) (named_in q))) is
    ∙ ap (λ (named : List Path). policy.verdict Allowed c (operation_of q) (list_any (lives s w) named)) none
    ∙ a
known_passes s w c q Trusted is h a t none = passes s w c q is t none

pub owners_may : OwnersMay
owners_may s w c h =
    let own = (bytes_eq-Decides c.name c.name).1 refl in
    let may : (q : Request) → policy.verdict Allowed c (operation_of q) false ≡ None
    → policy.verdict Trusted c (operation_of q) false ≡ None → named_in q ≡ [] → verdict s w c q ≡ None =
    λ q a t none. known_passes s w c q (class_of s c) refl h a t none in
    record {
      set_user_root =
          λ name p. may (set_user_root c.name name p) (mine false (bytes_eq c.name c.name) own)
          (mine false (bytes_eq c.name c.name) own) refl;
      drop_user_root =
          λ name. may (drop_user_root c.name name) (mine false (bytes_eq c.name c.name) own)
          (mine true (bytes_eq c.name c.name) own) refl;
      set_profile =
          λ name p. may (set_profile c.name name p) (mine false (bytes_eq c.name c.name) own)
          (mine false (bytes_eq c.name c.name) own) refl;
      rollback =
          λ name. may (rollback c.name name) (mine false (bytes_eq c.name c.name) own)
          (mine false (bytes_eq c.name c.name) own) refl;
      switch =
          λ name n. may (switch c.name name n) (mine false (bytes_eq c.name c.name) own)
          (mine false (bytes_eq c.name c.name) own) refl;
      delete_generation =
          λ name n. may (delete_generation c.name name n) (mine false (bytes_eq c.name c.name) own)
          (mine true (bytes_eq c.name c.name) own) refl;
      add_temp =
          λ session p. may (add_temp c.name session p) (mine false (bytes_eq c.name c.name) own)
          (mine false (bytes_eq c.name c.name) own) refl;
      end_session =
          λ session. may (end_session c.name session) (mine false (bytes_eq c.name c.name) own)
          (mine true (bytes_eq c.name c.name) own) refl;
    }
