-- Which fault of a request is reported.
use Rattle.std.proofs.Common.{◌≡◌, ℕ, List, [], ◌∷◌, Bool, true, false, ◌&&◌, Some, None, Option, refl, sym, ap, ◌∙◌}
use Rattle.std.proofs.Common.{IsTrue, inl, inr, ◌⊎◌}
use Rattle.std.specs.Prelude.{nat_le, is_some, IsFalse}
use Rattle.std.specs.List.{list_all}
use Rattle.std.proofs.lemmas.Bool.{and_parts, and_from, false≢true, leb-true, le-leb}
use Rattle.std.proofs.lemmas.Option.{same_Some}
use Rattle.paths.specs.Names.{is_plain_name}
use Rattle.paths.specs.Root.{is_session}
use Rattle.policy.specs.Settings.{Settings}
use Rattle.policy.specs.Caller.{Caller}
use Rattle.model.specs.World.{Path, World, has}
use Rattle.model.specs.Request.{Request, set_permanent, drop_permanent, set_user_root, drop_user_root, set_profile}
use Rattle.model.specs.Request.{rollback, switch, delete_generation, add_temp, end_session}
use Rattle.model.specs.Reply.{Reply, done, denied, refused, failed}
use Rattle.model.specs.declared.refusal.Refusal.{Refusal}
use Rattle.model.specs.declared.refusal.Refusal.TheVariants.{BadRootName, BadSession, NotValid, NoProfile}
use Rattle.model.specs.Profiles.{has_profile}
use Rattle.model.specs.Tests.{unless, first_failing, refusal}
use Rattle.model.specs.Step.{Step}
use Rattle.laws.specs.Faults.{IsInBounds, SessionFault, owner_, number, IsSessionOf, SessionFaultsAreReported}
use Rattle.laws.specs.Faults.{HasBadName, HasNoProfile, IsRefusedWith, NamesComeFirst, ProfilesComeNext}
use Rattle.laws.specs.Faults.{PathsComeBeforeNumbers, NamedAreValid}
use Rattle.model.proofs.Passed.{met, passed, all_member}

-- ---- sessions

pub in_bounds : (n : ℕ) → IsTrue (is_session n) → IsInBounds n
in_bounds n h = let both =
    and_parts (nat_le 1 n) (nat_le n 4194304) h in
    record { lowest = leb-true 1 n both.0; highest = leb-true n 4194304 both.1 }

is_in_bounds : (n : ℕ) → IsInBounds n → IsTrue (is_session n)
is_in_bounds n b = and_from (nat_le 1 n) (nat_le n 4194304) (le-leb 1 n b.lowest) (le-leb n 4194304 b.highest)

pub out_of_bounds : (n : ℕ) → is_session n ≡ false → IsInBounds n → ⊥
out_of_bounds n e b = false≢true (sym e ∙ is_in_bounds n b)

some_is : (a b : Refusal) → Some a ≡ Some b → b ≡ a
some_is a b e = sym (same_Some a b e)

module _ (s : Settings) (w : World) (c : Caller) (owner : List ℕ) (session : ℕ) where
  kept_for : (p : Path) → refusal s w (add_temp owner session p) ≡ None → IsSessionOf owner session × IsTrue (has w p)
  kept_for p e = by (is_plain_name owner) (is_session session) (has w p) refl refl refl e
    where
      by : (a b d : Bool) → is_plain_name owner ≡ a → is_session session ≡ b → has w p ≡ d
          → first_failing (unless a BadRootName ∷ unless b BadSession ∷ unless d NotValid ∷ []) ≡ None
          → IsSessionOf owner session × IsTrue (has w p)
      by true true true x y z h = (record { owner_ = x; number = in_bounds session y }, z)
      by false b d x y z h = absurd (false≢true (sym (ap is_some h)))
      by true false d x y z h = absurd (false≢true (sym (ap is_some h)))
      by true true false x y z h = absurd (false≢true (sym (ap is_some h)))

  not_kept_for : (p : Path) (r : Refusal) → refusal s w (add_temp owner session p) ≡ Some r
      → SessionFault owner session r ⊎ (IsSessionOf owner session × IsFalse (has w p) × (r ≡ NotValid))
  not_kept_for p r e = by (is_plain_name owner) (is_session session) (has w p) refl refl refl e
    where
      by : (a b d : Bool) → is_plain_name owner ≡ a → is_session session ≡ b → has w p ≡ d
          → first_failing (unless a BadRootName ∷ unless b BadSession ∷ unless d NotValid ∷ []) ≡ Some r
          → SessionFault owner session r ⊎ (IsSessionOf owner session × IsFalse (has w p) × (r ≡ NotValid))
      by true true true x y z h = absurd (false≢true (ap is_some h))
      by false b d x y z h = inl (owner_ x (some_is BadRootName r h))
      by true false d x y z h = inl (number x (out_of_bounds session y) (some_is BadSession r h))
      by true true false x y z h = inr (record { owner_ = x; number = in_bounds session y }, z, some_is NotValid r h)

  ended : refusal s w (end_session owner session) ≡ None → IsSessionOf owner session
  ended e = by (is_plain_name owner) (is_session session) refl refl e
    where
      by : (a b : Bool) → is_plain_name owner ≡ a → is_session session ≡ b
          → first_failing (unless a BadRootName ∷ unless b BadSession ∷ []) ≡ None → IsSessionOf owner session
      by true true x y h = record { owner_ = x; number = in_bounds session y }
      by false b x y h = absurd (false≢true (sym (ap is_some h)))
      by true false x y h = absurd (false≢true (sym (ap is_some h)))

  not_ended : (r : Refusal) → refusal s w (end_session owner session) ≡ Some r → SessionFault owner session r
  not_ended r e = by (is_plain_name owner) (is_session session) refl refl e
    where
      by : (a b : Bool) → is_plain_name owner ≡ a → is_session session ≡ b
          → first_failing (unless a BadRootName ∷ unless b BadSession ∷ []) ≡ Some r → SessionFault owner session r
      by true true x y h = absurd (false≢true (ap is_some h))
      by false b x y h = owner_ x (some_is BadRootName r h)
      by true false x y h = number x (out_of_bounds session y) (some_is BadSession r h)

pub session_faults_are_reported : SessionFaultsAreReported
session_faults_are_reported s w c owner session = (
  (λ p. record {
    done_ = λ a new h. kept_for s w c owner session p h.1;
    refused_ = λ r new h. not_kept_for s w c owner session p r h.1;
  }),
  record {
    done_ = λ a new h. ended s w c owner session h.1;
    refused_ = λ r new h. not_ended s w c owner session r h.1;
  },
)

-- ---- names and profiles

first_fails : (b : Bool) (r : Refusal) (ts : List (Option Refusal)) → IsFalse b
    → first_failing (unless b r ∷ ts) ≡ Some r
first_fails true r ts h = absurd (false≢true (sym h))
first_fails false r ts h = refl

second_fails : (a b : Bool) (q r : Refusal) (ts : List (Option Refusal)) → IsTrue a → IsFalse b
    → first_failing (unless a q ∷ unless b r ∷ ts) ≡ Some r
second_fails false b q r ts h k = absurd (false≢true h)
second_fails true b q r ts h k = first_fails b r ts k

one_bad : (a b : Bool) → IsFalse a ⊎ IsFalse b → IsFalse (a && b)
one_bad false b h = refl
one_bad true b (inl h) = absurd (false≢true (sym h))
one_bad true b (inr h) = h

pub refused_with : (s : Settings) (w : World) (c : Caller) (q : Request) (r : Refusal) → refusal s w q ≡ Some r
    → (reply : Reply) (new : World) → Step s w c q reply new → IsRefusedWith r reply
refused_with s w c q r e (refused x) new h = same_Some x r (sym h.1 ∙ e)
refused_with s w c q r e (done a) new h = absurd (false≢true (ap is_some (sym h.1 ∙ e)))
refused_with s w c q r e (denied rule root) new h = tt
refused_with s w c q r e (failed f) new h = tt

bad_name : (s : Settings) (w : World) (q : Request) → HasBadName q → refusal s w q ≡ Some BadRootName
bad_name s w (set_permanent name p) h = first_fails (is_plain_name name) BadRootName _ h
bad_name s w (drop_permanent name) h = first_fails (is_plain_name name) BadRootName _ h
bad_name s w (set_user_root owner name p) h =
    first_fails (is_plain_name owner && is_plain_name name) BadRootName _
    (one_bad (is_plain_name owner) (is_plain_name name) h)
bad_name s w (drop_user_root owner name) h =
    first_fails (is_plain_name owner && is_plain_name name) BadRootName _
    (one_bad (is_plain_name owner) (is_plain_name name) h)
bad_name s w (set_profile owner name p) h =
    first_fails (is_plain_name owner && is_plain_name name) BadRootName _
    (one_bad (is_plain_name owner) (is_plain_name name) h)
bad_name s w (rollback owner name) h =
    first_fails (is_plain_name owner && is_plain_name name) BadRootName _
    (one_bad (is_plain_name owner) (is_plain_name name) h)
bad_name s w (switch owner name n) h =
    first_fails (is_plain_name owner && is_plain_name name) BadRootName _
    (one_bad (is_plain_name owner) (is_plain_name name) h)
bad_name s w (delete_generation owner name n) h =
    first_fails (is_plain_name owner && is_plain_name name) BadRootName _
    (one_bad (is_plain_name owner) (is_plain_name name) h)
bad_name s w (add_temp owner session p) h = first_fails (is_plain_name owner) BadRootName _ h
bad_name s w (end_session owner session) h = first_fails (is_plain_name owner) BadRootName _ h
bad_name s w _ h = absurd h

pub names_come_first : NamesComeFirst
names_come_first s w c q reply new h bad = refused_with s w c q BadRootName (bad_name s w q bad) reply new h

no_such : (s : Settings) (w : World) (q : Request) → HasNoProfile w q → refusal s w q ≡ Some NoProfile
no_such s w (rollback owner name) h =
    second_fails (is_plain_name owner && is_plain_name name) (has_profile w (owner, name)) BadRootName NoProfile _
    (and_from (is_plain_name owner) (is_plain_name name) h.owner_ h.name_) h.none
no_such s w (switch owner name n) h =
    second_fails (is_plain_name owner && is_plain_name name) (has_profile w (owner, name)) BadRootName NoProfile _
    (and_from (is_plain_name owner) (is_plain_name name) h.owner_ h.name_) h.none
no_such s w (delete_generation owner name n) h =
    second_fails (is_plain_name owner && is_plain_name name) (has_profile w (owner, name)) BadRootName NoProfile _
    (and_from (is_plain_name owner) (is_plain_name name) h.owner_ h.name_) h.none
no_such s w _ h = absurd h

pub profiles_come_next : ProfilesComeNext
profiles_come_next s w c q reply new h none = refused_with s w c q NoProfile (no_such s w q none) reply new h

pub paths_come_before_numbers : PathsComeBeforeNumbers
paths_come_before_numbers s w c owner name p reply new h plain_owner plain_name none =
    refused_with s w c (set_profile owner name p) NotValid
    (second_fails (is_plain_name owner && is_plain_name name) (has w p) BadRootName NotValid _
    (and_from (is_plain_name owner) (is_plain_name name) plain_owner plain_name) none) reply new h

-- ---- deletions

pub named_are_present : NamedAreValid
named_are_present s w c named ignores a new h p listed =
    all_member (has w) named p (met (list_all (has w) named) _ (passed _ [] h.1).0) listed
