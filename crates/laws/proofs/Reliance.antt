-- Who changes what.
use Rattle.std.proofs.Common.{◌≡◌, ℕ, List, Bool, true, false, not, ◌&&◌, ◌||◌, cond, Some, None, Option, refl, sym, ap}
use Rattle.std.proofs.Common.{arith, ◌∙◌, IsTrue, subst, inl, inr, ◌⊎◌}
use Rattle.std.specs.Prelude.{◌==◌, is_some, IsFalse, Contains, if◌then◌else◌}
use Rattle.std.specs.Str.{bytes_eq}
use Rattle.std.specs.List.{list_any}
use Rattle.std.specs.FinMap as finite
use Rattle.std.specs.Cmp.Lexicographic.{nat_list_cmp_total}
use Rattle.std.proofs.lemmas.Bool.{cases_Bool, false≢true, false_from_ne_true}
use Rattle.std.proofs.lemmas.Slice.Eq.{bytes_eq-Decides}
use Rattle.paths.specs.ContentAddress.{ContentAddress, verifies}
use Rattle.policy.specs.Settings.{Settings}
use Rattle.policy.specs.Caller.{Caller}
use Rattle.policy.specs.Class.{class_of}
use Rattle.policy.specs.Operation.{owner_of, drops_owned, changes_permanent, replaces_runtime}
use Rattle.policy.specs.Rules.{is_stranger, is_trusted, is_own, rules, allows}
use Rattle.policy.specs.Rules as policy
use Rattle.policy.specs.declared.kinds.Class.{Class}
use Rattle.policy.specs.declared.kinds.Class.TheVariants.{Stranger, Allowed, Trusted}
use Rattle.policy.specs.declared.kinds.Rule.{Rule}
use Rattle.policy.specs.declared.kinds.Rule.TheVariants.{Connect, TrustedImport, TrustedPermanentRoot}
use Rattle.policy.specs.declared.kinds.Rule.TheVariants.{TrustedRuntimeRoots, OwnRoot}
use Rattle.live.specs.Graph.{same}
use Rattle.live.proofs.Members.{not_found}
use Rattle.live.proofs.Reach.{same_is}
use Rattle.model.specs.World.{Path, Pair, Object, Profile, Temporary, World, has}
use Rattle.model.specs.Request.{Request, add_text, add_source, import_object, set_permanent, drop_permanent}
use Rattle.model.specs.Request.{set_user_root, drop_user_root, set_profile, rollback, switch, delete_generation}
use Rattle.model.specs.Request.{replace_runtime, add_temp, end_session, collect, delete}
use Rattle.model.specs.Reply.{denied, refused, failed, done}
use Rattle.model.specs.Liveness.{lives, is_deleted_with}
use Rattle.model.specs.Verdict.{operation_of, named_in, verdict, shown}
use Rattle.model.specs.Adds.{Added, added_text, added_source, added_import}
use Rattle.model.specs.Profiles.{profile_at, set_to, rolled_back, switched, without_generation}
use Rattle.model.specs.Effects.{keeping, with_object, with_profile, with_user_root, without_user_root, with_temporary}
use Rattle.model.specs.Effects.{is_of_session, without_session, effect}
use Rattle.model.specs.Step.{IsNoneOrLive}
use Rattle.laws.specs.Reliance.{StrangersAreDenied, NothingIsReplaced, NobodyPlants, KeepsOfTheTrusted, KeepsOfOwner}
use Rattle.laws.specs.Reliance.{RootsAreTheirOwners}
use Rattle.model.proofs.Worlds.{get-keeping, kept_if}
use Rattle.model.proofs.Pins.{kept_by_add}
use Rattle.model.proofs.Limited.{leaves}
use Rattle.model.proofs.MapMembers.{bytes_antisymmetric, pair_total, pair_antisymmetric, temporary_total}
use Rattle.model.proofs.MapMembers.{temporary_antisymmetric, inserted_entry}
use Rattle.laws.proofs.Changed.{next_to_inserted, next_to_removed}
use Rattle.laws.proofs.SoundSteps.{keeps_sound}

-- ---- strangers

module _ (s : Settings) (w : World) (c : Caller) (q : Request) where
  stranger_denied : (k : Class) → class_of s c ≡ k → IsTrue (is_stranger k) → verdict s w c q ≡ Some Connect
  stranger_denied Stranger e h =
      ap (λ class. policy.verdict class c (operation_of q) (list_any (lives s w) (named_in q))) e
  stranger_denied Allowed e h = absurd (false≢true h)
  stranger_denied Trusted e h = absurd (false≢true h)

pub strangers_denied : StrangersAreDenied
strangers_denied s w c q (denied rule root) new h step =
    let v = stranger_denied s w c q (class_of s c) refl h in
    let is : rule ≡ Connect = cc in
    ((λ i. denied (is i) ((step.1 ∙ ap (shown s w c q) is) i)), step.2)
strangers_denied s w c q (refused r) new h step =
    absurd (false≢true (ap is_some (sym step.0 ∙ stranger_denied s w c q (class_of s c) refl h)))
strangers_denied s w c q (failed f) new h step =
    absurd (subst IsNoneOrLive (stranger_denied s w c q (class_of s c) refl h) step.0)
strangers_denied s w c q (done a) new h step =
    absurd (false≢true (ap is_some (sym step.0 ∙ stranger_denied s w c q (class_of s c) refl h)))

-- ---- nothing is replaced

kept_where_present : (w : World) (test : Path → Bool) (p : Path) → IsTrue (has (keeping w test) p)
    → finite.get (keeping w test).objects p ≡ finite.get w.objects p
kept_where_present w test p h = by (test p) refl (sym (ap is_some (get-keeping w.objects test p)) ∙ h)
  where
    by : (b : Bool) → test p ≡ b → IsTrue (is_some (cond b (finite.get w.objects p) None))
        → finite.get (keeping w test).objects p ≡ finite.get w.objects p
    by true e k = kept_if w.objects test p e
    by false e k = absurd (false≢true k)

effect_keeps : (s : Settings) (w : World) (q : Request) (p : Path) → IsTrue (has w p) → IsTrue (has (effect s w q) p)
    → finite.get (effect s w q).objects p ≡ finite.get w.objects p
effect_keeps s w (add_text name refs contents) p v h = kept_by_add w (added_text s.store_dir name refs contents) p v
effect_keeps s w (add_source name refs b) p v h = kept_by_add w (added_source s.store_dir name refs b) p v
effect_keeps s w (import_object i) p v h = kept_by_add w (added_import s.store_dir i) p v
effect_keeps s w (collect ignores None) p v h = kept_where_present w (lives s w) p h
effect_keeps s w (collect ignores (Some limit)) p v h = kept_where_present w (leaves s w limit) p h
effect_keeps s w (delete named ignores) p v h = kept_where_present w (λ x. not (is_deleted_with w named x)) p h
effect_keeps s w _ p v h = refl

pub nothing_replaced : NothingIsReplaced
nothing_replaced s w c q (done a) new step p v h =
    ap (λ (u : World). finite.get u.objects p) step.3
    ∙ effect_keeps s w q p v (ap (λ (u : World). has u p) (sym step.3) ∙ h)
nothing_replaced s w c q (denied rule root) new step p v h = ap (λ (u : World). finite.get u.objects p) step.2
nothing_replaced s w c q (refused r) new step p v h = ap (λ (u : World). finite.get u.objects p) step.2
nothing_replaced s w c q (failed f) new step p v h = ap (λ (u : World). finite.get u.objects p) step.1

-- ---- what rules allow

module _ (s : Settings) (w : World) (c : Caller) (q : Request) (v : verdict s w c q ≡ None) where
  pub allowed : (rule : Rule) → Contains rules rule
      → IsTrue (allows (class_of s c) c (operation_of q) (list_any (lives s w) (named_in q)) rule)
  allowed rule listed =
      by (cases_Bool (allows (class_of s c) c (operation_of q) (list_any (lives s w) (named_in q)) rule))
    where
      by : (allows (class_of s c) c (operation_of q) (list_any (lives s w) (named_in q)) rule ≡ true)
          ⊎ (allows (class_of s c) c (operation_of q) (list_any (lives s w) (named_in q)) rule ≡ false)
          → IsTrue (allows (class_of s c) c (operation_of q) (list_any (lives s w) (named_in q)) rule)
      by (inl e) = e
      by (inr e) =
          absurd (not_found (λ (r : Rule). not
          (allows (class_of s c) c (operation_of q) (list_any (lives s w) (named_in q)) r)) rules rule v listed
          (ap not e))

-- ---- nobody plants

pub added_present : (w : World) (a : Added) (p : Path) (o : Object) → IsFalse (has w p)
    → finite.get (with_object w a).objects p ≡ Some o → a.object ≡ o
added_present w a p o fresh e = by (has w a.path) e
  where
    old : finite.get w.objects p ≡ Some o → a.object ≡ o
    old f = absurd (false≢true (sym fresh ∙ ap is_some f))

    by : (b : Bool) → finite.get (if b then w
        else record w { objects = finite.insert w.objects a.path a.object }).objects p ≡ Some o → a.object ≡ o
    by true f = old f
    by false f =
        elim (inserted_entry nat_list_cmp_total bytes_antisymmetric w.objects a.path a.object p o f) as (λ _. a.object
        ≡ o) [ inl is ↦ is.1 | inr f ↦ old f ]

pub fresh_kept : (w : World) (test : Path → Bool) (p : Path) (o : Object) → IsFalse (has w p)
    → finite.get (keeping w test).objects p ≡ Some o → ⊥
fresh_kept w test p o fresh e = by (test p) (sym (get-keeping w.objects test p) ∙ e)
  where
    by : (b : Bool) → cond b (finite.get w.objects p) None ≡ Some o → ⊥
    by true f = false≢true (sym fresh ∙ ap is_some f)
    by false f = false≢true (ap is_some f)

pub has_address : (s : Settings) (w : World) (c : Caller) (q : Request) → verdict s w c q ≡ None
    → IsFalse (is_trusted (class_of s c))
    → (p : Path) (o : Object) → IsFalse (has w p) → finite.get (effect s w q).objects p ≡ Some o → IsTrue (is_some o.ca)
has_address s w c (add_text name refs contents) v other p o fresh e =
    ap (λ (x : Object). is_some x.ca) (sym (added_present w (added_text s.store_dir name refs contents) p o fresh e))
has_address s w c (add_source name refs b) v other p o fresh e =
    ap (λ (x : Object). is_some x.ca) (sym (added_present w (added_source s.store_dir name refs b) p o fresh e))
has_address s w c (import_object i) v other p o fresh e =
    ap (λ (x : Object). is_some x.ca) (sym (added_present w (added_import s.store_dir i) p o fresh e))
    ∙ by (is_some i.ca) (is_trusted (class_of s c)) other
    (allowed s w c (import_object i) v TrustedImport (1, omega arith, refl))
  where
    by : (a t : Bool) → IsFalse t → IsTrue (not (not a) || t) → IsTrue a
    by true t f h = refl
    by false t f h = absurd (false≢true (sym f ∙ h))
has_address s w c (collect ignores None) v other p o fresh e = absurd (fresh_kept w (lives s w) p o fresh e)
has_address s w c (collect ignores (Some limit)) v other p o fresh e =
    absurd (fresh_kept w (leaves s w limit) p o fresh e)
has_address s w c (delete named ignores) v other p o fresh e =
    absurd (fresh_kept w (λ x. not (is_deleted_with w named x)) p o fresh e)
has_address s w c _ v other p o fresh e = absurd (false≢true (sym fresh ∙ ap is_some e))

pub nobody_plants : NobodyPlants
nobody_plants s w c q (done a) new step other formed sound p o fresh e =
    by o.ca refl (has_address s w c q step.0 other p o fresh
    (ap (λ (u : World). finite.get u.objects p) (sym step.3) ∙ e))
  where
    by : (ca : Option ContentAddress) → o.ca ≡ ca → IsTrue (is_some ca)
        → (a : ContentAddress) × (o.ca ≡ Some a) × IsTrue (verifies a s.store_dir p (finite.keys o.references) o.nar)
    by None f h = absurd (false≢true h)
    by (Some x) f h = (x, f, ((keeps_sound s w c q (done a) new step formed sound).objects p o e).address x f)
nobody_plants s w c q (denied rule root) new step other formed sound p o fresh e =
    absurd (false≢true (sym fresh ∙ ap (λ (u : World). has u p) (sym step.2) ∙ ap is_some e))
nobody_plants s w c q (refused r) new step other formed sound p o fresh e =
    absurd (false≢true (sym fresh ∙ ap (λ (u : World). has u p) (sym step.2) ∙ ap is_some e))
nobody_plants s w c q (failed f) new step other formed sound p o fresh e =
    absurd (false≢true (sym fresh ∙ ap (λ (u : World). has u p) (sym step.1) ∙ ap is_some e))

-- ---- roots are their owners'

-- what a caller who isn't trusted is allowed
module _ (s : Settings) (w : World) (c : Caller) (other : IsFalse (is_trusted (class_of s c))) where
  no_permanent : (q : Request) → verdict s w c q ≡ None → changes_permanent (operation_of q) ≡ true → ⊥
  no_permanent q v e =
      by (changes_permanent (operation_of q)) (is_trusted (class_of s c)) e other
      (allowed s w c q v TrustedPermanentRoot (2, omega arith, refl))
    where
      by : (a t : Bool) → a ≡ true → IsFalse t → IsTrue (not a || t) → ⊥
      by true t e f h = false≢true (sym f ∙ h)
      by false t e f h = false≢true e

  no_runtime : (q : Request) → verdict s w c q ≡ None → replaces_runtime (operation_of q) ≡ true → ⊥
  no_runtime q v e =
      by (replaces_runtime (operation_of q)) (is_trusted (class_of s c)) e other
      (allowed s w c q v TrustedRuntimeRoots (3, omega arith, refl))
    where
      by : (a t : Bool) → a ≡ true → IsFalse t → IsTrue (not a || t) → ⊥
      by true t e f h = false≢true (sym f ∙ h)
      by false t e f h = false≢true e

  own : (q : Request) (owner : List ℕ) → verdict s w c q ≡ None → owner_of (operation_of q) ≡ Some owner
      → owner ≡ c.name
  own q owner v e =
      (bytes_eq-Decides owner c.name).0
      (by (bytes_eq owner c.name) (drops_owned (operation_of q)) (is_trusted (class_of s c)) other
      (ap (λ (o : Option (List ℕ)). is_own c o || (drops_owned (operation_of q) && is_trusted (class_of s c))) (sym e)
      ∙ allowed s w c q v OwnRoot (4, omega arith, refl)))
    where
      by : (a d t : Bool) → IsFalse t → IsTrue (a || (d && t)) → IsTrue a
      by true d t f h = refl
      by false true t f h = absurd (false≢true (sym f ∙ h))
      by false false t f h = absurd (false≢true h)

pub all_same : (owner : List ℕ) (w : World) → KeepsOfOwner owner w w
all_same owner w = record { user_roots = λ n. refl; profiles = λ n. refl; temporary = λ k p. refl }

module _ (w : World) (a : Added) where
  pub add_of_owner : (owner : List ℕ) → KeepsOfOwner owner w (with_object w a)
  add_of_owner owner = by (has w a.path)
    where
      by : (b : Bool) → KeepsOfOwner owner w
          (if b then w else record w { objects = finite.insert w.objects a.path a.object })
      by true = all_same owner w
      by false = record { user_roots = λ n. refl; profiles = λ n. refl; temporary = λ k p. refl }

  add_of_trusted : KeepsOfTheTrusted w (with_object w a)
  add_of_trusted = by (has w a.path)
    where
      by : (b : Bool) → KeepsOfTheTrusted w
          (if b then w else record w { objects = finite.insert w.objects a.path a.object })
      by true = record { permanent = refl; runtime = refl }
      by false = record { permanent = refl; runtime = refl }

effect_of_trusted : (s : Settings) (w : World) (c : Caller) → IsFalse (is_trusted (class_of s c)) → (q : Request)
    → verdict s w c q ≡ None → KeepsOfTheTrusted w (effect s w q)
effect_of_trusted s w c other (add_text name refs contents) v =
    add_of_trusted w (added_text s.store_dir name refs contents)
effect_of_trusted s w c other (add_source name refs b) v = add_of_trusted w (added_source s.store_dir name refs b)
effect_of_trusted s w c other (import_object i) v = add_of_trusted w (added_import s.store_dir i)
effect_of_trusted s w c other (set_permanent name p) v = absurd (no_permanent s w c other (set_permanent name p) v refl)
effect_of_trusted s w c other (drop_permanent name) v = absurd (no_permanent s w c other (drop_permanent name) v refl)
effect_of_trusted s w c other (replace_runtime pairs) v = absurd (no_runtime s w c other (replace_runtime pairs) v refl)
effect_of_trusted s w c other (collect ignores None) v = record { permanent = refl; runtime = refl }
effect_of_trusted s w c other (collect ignores (Some limit)) v = record { permanent = refl; runtime = refl }
effect_of_trusted s w c other _ v = record { permanent = refl; runtime = refl }

module _ (w : World) (owner other_owner : List ℕ) (apart : owner ≡ other_owner → ⊥) where
  other_pair : (n m : List ℕ) → ◌≡◌ {A = Pair} (owner, n) (other_owner, m) → ⊥
  other_pair n m e = apart (ap (λ (x : Pair). x.0) e)

  pub profile_of_other : (name : List ℕ) (p : Profile) → KeepsOfOwner owner w (with_profile w (other_owner, name) p)
  profile_of_other name p = record {
    user_roots = λ n. refl;
    profiles =
        λ n. next_to_inserted pair_total pair_antisymmetric w.profiles (other_owner, name) p (owner, n)
        (other_pair n name);
    temporary = λ k t. refl;
  }

  pub set_of_other : (name : List ℕ) (p : Path) → KeepsOfOwner owner w (with_user_root w (other_owner, name) p)
  set_of_other name p = record {
    user_roots =
        λ n. next_to_inserted pair_total pair_antisymmetric w.user_roots (other_owner, name) p (owner, n)
        (other_pair n name);
    profiles = λ n. refl;
    temporary = λ k t. refl;
  }

  drop_of_other : (name : List ℕ) → KeepsOfOwner owner w (without_user_root w (other_owner, name))
  drop_of_other name = record {
    user_roots =
        λ n. next_to_removed pair_total pair_antisymmetric w.user_roots (other_owner, name) (owner, n)
        (other_pair n name);
    profiles = λ n. refl;
    temporary = λ k t. refl;
  }

  pub added_of_other : (session : ℕ) (p : Path)
      → KeepsOfOwner owner w (with_temporary w (record { owner = other_owner; session = session; path = p }))
  added_of_other session p = record {
    user_roots = λ n. refl;
    profiles = λ n. refl;
    temporary =
        λ k t. ap is_some (next_to_inserted temporary_total temporary_antisymmetric w.temporary
        (record { owner = other_owner; session = session; path = p }) tt
        (record { owner = owner; session = k; path = t }) (λ e. apart (ap (λ (x : Temporary). x.owner) e)));
  }

  ended_of_other : (session : ℕ) → KeepsOfOwner owner w (without_session w other_owner session)
  ended_of_other session = record {
    user_roots = λ n. refl;
    profiles = λ n. refl;
    temporary = λ k t.
        let x : Temporary = record { owner = owner; session = k; path = t } in
        let stays : IsTrue (not (is_of_session other_owner session x)) =
        ap (λ b. not (b && k == session))
        (false_from_ne_true (same owner other_owner) (λ h. apart (same_is owner other_owner h))) in
        ap is_some (finite.get-retain_keys w.temporary (λ y. not (is_of_session other_owner session y)) x
        (λ y e. ap (λ z. not (is_of_session other_owner session z)) (sym (temporary_antisymmetric x y e)))
        ∙ ap (λ b. cond b (finite.get w.temporary x) None) stays);
  }

effect_of_owner : (s : Settings) (w : World) (c : Caller) → IsFalse (is_trusted (class_of s c)) → (q : Request)
    → verdict s w c q ≡ None
    → (owner : List ℕ) → (owner ≡ c.name → ⊥) → KeepsOfOwner owner w (effect s w q)
effect_of_owner s w c other (add_text name refs contents) v owner apart =
    add_of_owner w (added_text s.store_dir name refs contents) owner
effect_of_owner s w c other (add_source name refs b) v owner apart =
    add_of_owner w (added_source s.store_dir name refs b) owner
effect_of_owner s w c other (import_object i) v owner apart = add_of_owner w (added_import s.store_dir i) owner
effect_of_owner s w c other (set_user_root other_owner name p) v owner apart =
    set_of_other w owner other_owner
    (λ e. apart (e ∙ own s w c other (set_user_root other_owner name p) other_owner v refl)) name p
effect_of_owner s w c other (drop_user_root other_owner name) v owner apart =
    drop_of_other w owner other_owner
    (λ e. apart (e ∙ own s w c other (drop_user_root other_owner name) other_owner v refl)) name
effect_of_owner s w c other (set_profile other_owner name p) v owner apart =
    profile_of_other w owner other_owner
    (λ e. apart (e ∙ own s w c other (set_profile other_owner name p) other_owner v refl)) name
    (set_to (profile_at w (other_owner, name)) p)
effect_of_owner s w c other (rollback other_owner name) v owner apart =
    profile_of_other w owner other_owner
    (λ e. apart (e ∙ own s w c other (rollback other_owner name) other_owner v refl)) name
    (rolled_back (profile_at w (other_owner, name)))
effect_of_owner s w c other (switch other_owner name n) v owner apart =
    profile_of_other w owner other_owner
    (λ e. apart (e ∙ own s w c other (switch other_owner name n) other_owner v refl)) name
    (switched (profile_at w (other_owner, name)) n)
effect_of_owner s w c other (delete_generation other_owner name n) v owner apart =
    profile_of_other w owner other_owner
    (λ e. apart (e ∙ own s w c other (delete_generation other_owner name n) other_owner v refl)) name
    (without_generation (profile_at w (other_owner, name)) n)
effect_of_owner s w c other (add_temp other_owner session p) v owner apart =
    added_of_other w owner other_owner
    (λ e. apart (e ∙ own s w c other (add_temp other_owner session p) other_owner v refl)) session p
effect_of_owner s w c other (end_session other_owner session) v owner apart =
    ended_of_other w owner other_owner
    (λ e. apart (e ∙ own s w c other (end_session other_owner session) other_owner v refl)) session
effect_of_owner s w c other (collect ignores None) v owner apart =
    record { user_roots = λ n. refl; profiles = λ n. refl; temporary = λ k p. refl }
effect_of_owner s w c other (collect ignores (Some limit)) v owner apart =
    record { user_roots = λ n. refl; profiles = λ n. refl; temporary = λ k p. refl }
effect_of_owner s w c other _ v owner apart =
    record { user_roots = λ n. refl; profiles = λ n. refl; temporary = λ k p. refl }

unchanged : (w new : World) → new ≡ w → KeepsOfTheTrusted w new × ((owner : List ℕ) → KeepsOfOwner owner w new)
unchanged w new e = (
  subst (λ (u : World). KeepsOfTheTrusted w u) (sym e) (record { permanent = refl; runtime = refl }),
  (λ owner. subst (λ (u : World). KeepsOfOwner owner w u) (sym e) (all_same owner w)),
)

pub roots_are_their_owners : RootsAreTheirOwners
roots_are_their_owners s w c q (done a) new step other = (
  subst (λ (u : World). KeepsOfTheTrusted w u) (sym step.3) (effect_of_trusted s w c other q step.0),
  (λ owner apart. subst (λ (u : World). KeepsOfOwner owner w u) (sym step.3)
      (effect_of_owner s w c other q step.0 owner apart)),
)
roots_are_their_owners s w c q (denied rule root) new step other = let same =
    unchanged w new step.2 in (same.0, (λ owner apart. same.1 owner))
roots_are_their_owners s w c q (refused r) new step other = let same =
    unchanged w new step.2 in (same.0, (λ owner apart. same.1 owner))
roots_are_their_owners s w c q (failed f) new step other = let same =
    unchanged w new step.1 in (same.0, (λ owner apart. same.1 owner))
