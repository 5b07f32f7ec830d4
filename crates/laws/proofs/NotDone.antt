-- A request that has a fault isn't done.
use Rattle.std.proofs.Common.{◌≡◌, ℕ, ◌<◌, List, length, Bool, not, ◌&&◌, Some, None, Option, refl}
use Rattle.std.proofs.Common.{sym, ap, arith, ◌∙◌, IsTrue, inl, inr, ◌⊎◌}
use Rattle.std.specs.Prelude.{◌==◌, nat_le, is_some, IsFalse}
use Rattle.std.specs.List.{list_all}
use Rattle.std.specs.FinMap as finite
use Rattle.std.proofs.lemmas.Bool.{and_parts, eq-eqb, false≢true, leb-true}
use Rattle.sha2.specs.Sha256.{sha256}
use Rattle.nar.specs.Outcome.{outcome_of}
use Rattle.paths.specs.Names.{is_plain_name}
use Rattle.paths.specs.Root.{is_runtime_label, is_session}
use Rattle.paths.specs.Path.{text_path, source_path}
use Rattle.paths.specs.Decimal.{max_generation}
use Rattle.drv.specs.declared.error.DrvError.TheVariants as texts
use Rattle.drv.specs.Outcome.{outputs_of}
use Rattle.live.specs.Graph.{same}
use Rattle.live.proofs.Reach.{same_is}
use Rattle.policy.specs.Settings.{Settings}
use Rattle.model.specs.World.{Path, Pair, World, has}
use Rattle.model.specs.Objects.{most_references}
use Rattle.nar.specs.Archive.{limit}
use Rattle.model.specs.Request.{Imported, Request, add_text, add_source, import_object, info, nar, ls}
use Rattle.model.specs.Request.{list_roots_of, set_permanent, drop_permanent, set_user_root}
use Rattle.model.specs.Request.{drop_user_root, set_profile, rollback, switch, delete_generation, replace_runtime}
use Rattle.model.specs.Request.{add_temp, end_session, delete}
use Rattle.model.specs.declared.refusal.Refusal.{Refusal}
use Rattle.model.specs.declared.refusal.Refusal.TheVariants.{TooLarge, CaMismatch, BadDerivation, DoubleOutput}
use Rattle.model.specs.declared.refusal.Refusal.TheVariants.{NotValid, MissingReference, NarHashMismatch, SelfReference}
use Rattle.model.specs.declared.refusal.Refusal.TheVariants.{NoRoot, NoProfile, NoGeneration, CurrentGeneration}
use Rattle.model.specs.declared.refusal.Refusal.TheVariants.{NoOlderGeneration, GenerationLimit, TooManyReferences}
use Rattle.model.specs.declared.refusal.Refusal.TheVariants.{BadRootName, BadLabel, BadSession}
use Rattle.model.specs.Profiles.{profile_at, has_profile, has_generation, number_for, previous}
use Rattle.model.specs.Adds.{text_archive_size}
use Rattle.model.specs.Tests.{archive_fault, outputs_fault, tests, refusal}
use Rattle.model.proofs.Passed.{all_member, each_passed, met}
use Rattle.laws.specs.Generations.{IsNumberFor}
use Rattle.laws.specs.Reasons.{HasFault, FaultsAreNotDone}
use Rattle.laws.proofs.AddFaults.{texts_are_measured}
use Rattle.laws.proofs.AddOrder.{a_self, asked, bad_tree, many, mismatched, misses, selfish}
use Rattle.laws.proofs.Faults.{in_bounds}
use Rattle.laws.proofs.Numbers.{chosen, one_number, some_below}

-- a test that passes isn't one that fails
clash : (b : Bool) → IsFalse b → IsTrue b → ⊥
clash b wrong right = false≢true (sym wrong ∙ right)

stopped : (t : Option Refusal) (r : Refusal) → t ≡ None → t ≡ Some r → ⊥
stopped t r passes fails = false≢true (sym (ap is_some passes) ∙ ap is_some fails)

module _ (s : Settings) (w : World) where
  of_text : (name : List ℕ) (refs : List Path) (contents : List ℕ) → refusal s w (add_text name refs contents) ≡ None
      → (r : Refusal) → HasFault s w (add_text name refs contents) r → ⊥
  of_text name refs contents e r f = by r f
    where
      by : (r : Refusal) → HasFault s w (add_text name refs contents) r → ⊥
      by TooManyReferences f =
          stopped _ _ (each_passed (tests s w (add_text name refs contents)) e _ (0, omega arith, refl))
          (many (length refs) most_references TooManyReferences f)
      by TooLarge f =
          stopped _ _ (each_passed (tests s w (add_text name refs contents)) e _ (1, omega arith, refl))
          (many (text_archive_size contents) limit TooLarge
          (let size = texts_are_measured contents in omega (arith, size, f)))
      by SelfReference f =
          stopped _ _ (each_passed (tests s w (add_text name refs contents)) e _ (2, omega arith, refl))
          (a_self refs (text_path s.store_dir name refs contents) f)
      by BadDerivation f =
          stopped _ BadDerivation (each_passed (tests s w (add_text name refs contents)) e _ (3, omega arith, refl))
          (asked (text_path s.store_dir name refs contents) (outputs_fault (outputs_of s.store_dir contents)) f.0
          ∙ ap outputs_fault f.1)
      by DoubleOutput f =
          stopped _ DoubleOutput (each_passed (tests s w (add_text name refs contents)) e _ (3, omega arith, refl))
          (asked (text_path s.store_dir name refs contents) (outputs_fault (outputs_of s.store_dir contents)) f.0
          ∙ ap outputs_fault f.1)
      by MissingReference f =
          stopped _ _ (each_passed (tests s w (add_text name refs contents)) e _ (4, omega arith, refl))
          (misses w (text_path s.store_dir name refs contents) refs f)
      by _ f = absurd f

  of_source : (name : List ℕ) (refs : List Path) (b : List ℕ) → refusal s w (add_source name refs b) ≡ None
      → (r : Refusal) → HasFault s w (add_source name refs b) r → ⊥
  of_source name refs b e TooManyReferences f =
      stopped _ _ (each_passed (tests s w (add_source name refs b)) e _ (0, omega arith, refl))
      (many (length refs) most_references TooManyReferences f)
  of_source name refs b e SelfReference f =
      stopped _ _ (each_passed (tests s w (add_source name refs b)) e _ (2, omega arith, refl))
      (a_self refs (source_path s.store_dir name refs b) f)
  of_source name refs b e BadDerivation f =
      stopped _ BadDerivation (each_passed (tests s w (add_source name refs b)) e _ (3, omega arith, refl))
      (bad_tree s.store_dir (source_path s.store_dir name refs b) (outcome_of b) f.tree texts.BadDerivation f.read
      f.named f.faulty)
  of_source name refs b e DoubleOutput f =
      stopped _ DoubleOutput (each_passed (tests s w (add_source name refs b)) e _ (3, omega arith, refl))
      (bad_tree s.store_dir (source_path s.store_dir name refs b) (outcome_of b) f.tree texts.DoubleOutput f.read
      f.named f.faulty)
  of_source name refs b e MissingReference f =
      stopped _ _ (each_passed (tests s w (add_source name refs b)) e _ (4, omega arith, refl))
      (misses w (source_path s.store_dir name refs b) refs f)
  of_source name refs b e r f =
      stopped (archive_fault (outcome_of b)) r
      (each_passed (tests s w (add_source name refs b)) e _ (1, omega arith, refl))
      (ap archive_fault f.read ∙ f.reported)

  of_import : (i : Imported) → refusal s w (import_object i) ≡ None → (r : Refusal) → HasFault s w (import_object i) r
      → ⊥
  of_import i e TooManyReferences f =
      stopped _ _ (each_passed (tests s w (import_object i)) e _ (0, omega arith, refl))
      (many (length i.refs) most_references TooManyReferences f)
  of_import i e NarHashMismatch f =
      f (same_is (sha256 i.nar) i.nar_hash
      (met (same (sha256 i.nar) i.nar_hash) _ (each_passed (tests s w (import_object i)) e _ (2, omega arith, refl))))
  of_import i e SelfReference f =
      stopped _ _ (each_passed (tests s w (import_object i)) e _ (3, omega arith, refl))
      (selfish s.store_dir i f.0.0 f.0.1 f.1)
  of_import i e CaMismatch f =
      stopped _ _ (each_passed (tests s w (import_object i)) e _ (4, omega arith, refl))
      (mismatched s.store_dir i f.given f.is f.fails)
  of_import i e BadDerivation f =
      stopped _ BadDerivation (each_passed (tests s w (import_object i)) e _ (5, omega arith, refl))
      (bad_tree s.store_dir i.path (outcome_of i.nar) f.tree texts.BadDerivation f.read f.named f.faulty)
  of_import i e DoubleOutput f =
      stopped _ DoubleOutput (each_passed (tests s w (import_object i)) e _ (5, omega arith, refl))
      (bad_tree s.store_dir i.path (outcome_of i.nar) f.tree texts.DoubleOutput f.read f.named f.faulty)
  of_import i e MissingReference f =
      stopped _ _ (each_passed (tests s w (import_object i)) e _ (6, omega arith, refl)) (misses w i.path i.refs f)
  of_import i e r f =
      stopped (archive_fault (outcome_of i.nar)) r
      (each_passed (tests s w (import_object i)) e _ (1, omega arith, refl)) (ap archive_fault f.read ∙ f.reported)

  -- both names of a request are plain
  both_plain : (owner name : List ℕ) → IsTrue (is_plain_name owner && is_plain_name name)
      → IsFalse (is_plain_name owner) ⊎ IsFalse (is_plain_name name) → ⊥
  both_plain owner name plain (inl wrong) =
      clash (is_plain_name owner) wrong (and_parts (is_plain_name owner) (is_plain_name name) plain).0
  both_plain owner name plain (inr wrong) =
      clash (is_plain_name name) wrong (and_parts (is_plain_name owner) (is_plain_name name) plain).1

  not_limited : (owned : Pair) (p : Path) → IsTrue (nat_le (number_for (profile_at w owned) p) max_generation) → (n : ℕ)
      → IsNumberFor (profile_at w owned) p n → 9999 < n → ⊥
  not_limited owned p le n is more =
      let same =
      one_number (profile_at w owned) p n (number_for (profile_at w owned) p) is (chosen (profile_at w owned) p) in
      let less = leb-true (number_for (profile_at w owned) p) max_generation le in
      omega (arith, same, less, more)

  not_current : (a b : ℕ) → IsTrue (not (a == b)) → a ≡ b → ⊥
  not_current a b apart is = false≢true (sym (ap not (eq-eqb a b is)) ∙ apart)

  no_fault : (q : Request) → refusal s w q ≡ None → (r : Refusal) → HasFault s w q r → ⊥
  no_fault (add_text name refs contents) e r f = of_text name refs contents e r f
  no_fault (add_source name refs b) e r f = of_source name refs b e r f
  no_fault (import_object i) e r f = of_import i e r f
  no_fault (info p) e NotValid f =
      clash (has w p) f (met (has w p) _ (each_passed (tests s w (info p)) e _ (0, omega arith, refl)))
  no_fault (nar p) e NotValid f =
      clash (has w p) f (met (has w p) _ (each_passed (tests s w (nar p)) e _ (0, omega arith, refl)))
  no_fault (ls p) e NotValid f =
      clash (has w p) f (met (has w p) _ (each_passed (tests s w (ls p)) e _ (0, omega arith, refl)))
  no_fault (list_roots_of p) e NotValid f =
      clash (has w p) f (met (has w p) _ (each_passed (tests s w (list_roots_of p)) e _ (0, omega arith, refl)))
  no_fault (set_permanent name p) e BadRootName f =
      clash (is_plain_name name) f (met (is_plain_name name) _
      (each_passed (tests s w (set_permanent name p)) e _ (0, omega arith, refl)))
  no_fault (set_permanent name p) e NotValid f =
      clash (has w p) f (met (has w p) _ (each_passed (tests s w (set_permanent name p)) e _ (1, omega arith, refl)))
  no_fault (drop_permanent name) e BadRootName f =
      clash (is_plain_name name) f (met (is_plain_name name) _
      (each_passed (tests s w (drop_permanent name)) e _ (0, omega arith, refl)))
  no_fault (drop_permanent name) e NoRoot f =
      clash (finite.contains_key w.permanent name) f
      (met (finite.contains_key w.permanent name) _
      (each_passed (tests s w (drop_permanent name)) e _ (1, omega arith, refl)))
  no_fault (set_user_root owner name p) e BadRootName f =
      both_plain owner name (met (is_plain_name owner && is_plain_name name) _
      (each_passed (tests s w (set_user_root owner name p)) e _ (0, omega arith, refl))) f
  no_fault (set_user_root owner name p) e NotValid f =
      clash (has w p) f (met (has w p) _
      (each_passed (tests s w (set_user_root owner name p)) e _ (1, omega arith, refl)))
  no_fault (drop_user_root owner name) e BadRootName f =
      both_plain owner name (met (is_plain_name owner && is_plain_name name) _
      (each_passed (tests s w (drop_user_root owner name)) e _ (0, omega arith, refl))) f
  no_fault (drop_user_root owner name) e NoRoot f =
      clash (finite.contains_key w.user_roots (owner, name)) f
      (met (finite.contains_key w.user_roots (owner, name)) _
      (each_passed (tests s w (drop_user_root owner name)) e _ (1, omega arith, refl)))
  no_fault (set_profile owner name p) e BadRootName f =
      both_plain owner name (met (is_plain_name owner && is_plain_name name) _
      (each_passed (tests s w (set_profile owner name p)) e _ (0, omega arith, refl))) f
  no_fault (set_profile owner name p) e NotValid f =
      clash (has w p) f (met (has w p) _
      (each_passed (tests s w (set_profile owner name p)) e _ (1, omega arith, refl)))
  no_fault (set_profile owner name p) e GenerationLimit f =
      not_limited (owner, name) p (met (nat_le (number_for (profile_at w (owner, name)) p) max_generation) _
      (each_passed (tests s w (set_profile owner name p)) e _ (2, omega arith, refl))) f.0 f.1 f.2
  no_fault (rollback owner name) e BadRootName f =
      both_plain owner name (met (is_plain_name owner && is_plain_name name) _
      (each_passed (tests s w (rollback owner name)) e _ (0, omega arith, refl))) f
  no_fault (rollback owner name) e NoProfile f =
      clash (has_profile w (owner, name)) f
      (met (has_profile w (owner, name)) _ (each_passed (tests s w (rollback owner name)) e _ (1, omega arith, refl)))
  no_fault (rollback owner name) e NoOlderGeneration f =
      let below =
      some_below (profile_at w (owner, name))
      (met (is_some (previous (profile_at w (owner, name)))) _
      (each_passed (tests s w (rollback owner name)) e _ (2, omega arith, refl))) in
      let least = f below.0 below.1 in
      omega (arith, least, below.2)
  no_fault (switch owner name n) e BadRootName f =
      both_plain owner name (met (is_plain_name owner && is_plain_name name) _
      (each_passed (tests s w (switch owner name n)) e _ (0, omega arith, refl))) f
  no_fault (switch owner name n) e NoProfile f =
      clash (has_profile w (owner, name)) f
      (met (has_profile w (owner, name)) _ (each_passed (tests s w (switch owner name n)) e _ (1, omega arith, refl)))
  no_fault (switch owner name n) e NoGeneration f =
      clash (has_generation (profile_at w (owner, name)) n) f
      (met (has_generation (profile_at w (owner, name)) n) _
      (each_passed (tests s w (switch owner name n)) e _ (2, omega arith, refl)))
  no_fault (delete_generation owner name n) e BadRootName f =
      both_plain owner name (met (is_plain_name owner && is_plain_name name) _
      (each_passed (tests s w (delete_generation owner name n)) e _ (0, omega arith, refl))) f
  no_fault (delete_generation owner name n) e NoProfile f =
      clash (has_profile w (owner, name)) f
      (met (has_profile w (owner, name)) _
      (each_passed (tests s w (delete_generation owner name n)) e _ (1, omega arith, refl)))
  no_fault (delete_generation owner name n) e NoGeneration f =
      clash (has_generation (profile_at w (owner, name)) n) f
      (met (has_generation (profile_at w (owner, name)) n) _
      (each_passed (tests s w (delete_generation owner name n)) e _ (2, omega arith, refl)))
  no_fault (delete_generation owner name n) e CurrentGeneration f =
      not_current (profile_at w (owner, name)).current n
      (met (not ((profile_at w (owner, name)).current == n)) _
      (each_passed (tests s w (delete_generation owner name n)) e _ (3, omega arith, refl))) f
  no_fault (replace_runtime pairs) e BadLabel f =
      clash (is_runtime_label f.0.0) f.2
      (all_member (λ (x : Pair). is_runtime_label x.0) pairs f.0
      (met (list_all (λ (x : Pair). is_runtime_label x.0) pairs) _
      (each_passed (tests s w (replace_runtime pairs)) e _ (0, omega arith, refl))) f.1)
  no_fault (add_temp owner session p) e BadRootName f =
      clash (is_plain_name owner) f
      (met (is_plain_name owner) _ (each_passed (tests s w (add_temp owner session p)) e _ (0, omega arith, refl)))
  no_fault (add_temp owner session p) e BadSession f =
      f (in_bounds session (met (is_session session) _
      (each_passed (tests s w (add_temp owner session p)) e _ (1, omega arith, refl))))
  no_fault (add_temp owner session p) e NotValid f =
      clash (has w p) f (met (has w p) _
      (each_passed (tests s w (add_temp owner session p)) e _ (2, omega arith, refl)))
  no_fault (end_session owner session) e BadRootName f =
      clash (is_plain_name owner) f
      (met (is_plain_name owner) _ (each_passed (tests s w (end_session owner session)) e _ (0, omega arith, refl)))
  no_fault (end_session owner session) e BadSession f =
      f (in_bounds session (met (is_session session) _
      (each_passed (tests s w (end_session owner session)) e _ (1, omega arith, refl))))
  no_fault (delete named ignores) e NotValid f =
      clash (has w f.0) f.2 (all_member (has w) named f.0
      (met (list_all (has w) named) _ (each_passed (tests s w (delete named ignores)) e _ (0, omega arith, refl)))
      f.1)
  no_fault _ e _ f = absurd f

pub faults_are_not_done : FaultsAreNotDone
faults_are_not_done s w c q a new step r f = no_fault s w q step.1 r f
