-- The tests of each request, and the refusal of the first that fails.
use Rattle.std.specs.Prelude.{ℕ, Bool, true, false, not, ◌&&◌, ◌||◌, ◌==◌, nat_le, if◌then◌else◌, List, [], ◌∷◌, length}
use Rattle.std.specs.Prelude.{Option, Some, None, is_some, is_none, Result, Ok, Err}
use Rattle.std.specs.List.{list_all}
use Rattle.std.specs.FinMap as finite
use Rattle.sha2.specs.Sha256.{sha256}
use Rattle.paths.specs.Names.{is_plain_name}
use Rattle.paths.specs.StorePath.{is_derivation}
use Rattle.paths.specs.Root.{is_runtime_label, is_session}
use Rattle.live.specs.Graph.{same, holds}
use Rattle.nar.specs.declared.error.NarError.{NarError}
use Rattle.nar.specs.Tree.{Tree, regular}
use Rattle.nar.specs.Archive.{limit}
use Rattle.nar.specs.Outcome.{outcome_of}
use Rattle.paths.specs.Path.{text_path, source_path}
use Rattle.paths.specs.ContentAddress.{ContentAddress, verifies}
use Rattle.drv.specs.declared.error.DrvError.{DrvError}
use Rattle.drv.specs.Outcome.{outputs_of}
use Rattle.model.specs.World.{Path, Object, World, has}
use Rattle.model.specs.Objects.{most_references}
use Rattle.policy.specs.Settings.{Settings}
use Rattle.model.specs.Request.{Imported, Request, add_text, add_source, import_object, info, nar, ls, list, list_live}
use Rattle.model.specs.Request.{list_dead, list_roots, list_roots_of, set_permanent, drop_permanent, set_user_root}
use Rattle.model.specs.Request.{drop_user_root, set_profile, rollback, switch, delete_generation, replace_runtime}
use Rattle.model.specs.Request.{add_temp, end_session, collect, delete, report}
use Rattle.model.specs.declared.refusal.Refusal.{Refusal}
use Rattle.model.specs.declared.refusal.Refusal.TheVariants.{TooLarge, CaMismatch, BadDerivation, NotValid}
use Rattle.model.specs.declared.refusal.Refusal.TheVariants.{MissingReference, NarHashMismatch, SelfReference, NoRoot}
use Rattle.model.specs.declared.refusal.Refusal.TheVariants.{NoProfile, NoGeneration, CurrentGeneration}
use Rattle.model.specs.declared.refusal.Refusal.TheVariants.{NoOlderGeneration, GenerationLimit, TooManyReferences}
use Rattle.model.specs.declared.refusal.Refusal.TheVariants.{BadRootName, BadLabel, BadSession}
use Rattle.model.specs.Faults.{archive_refusal, derivation_refusal}
use Rattle.model.specs.Adds.{added_import, text_archive_size}
use Rattle.model.specs.Profiles.{profile_at, has_profile, has_generation, number_for, previous}
use Rattle.paths.specs.Decimal.{max_generation}

-- a test: nothing, or the refusal
abbrev pub unless : Bool → Refusal → Option Refusal
unless true r = None
unless false r = Some r

-- the refusal of the first test that fails
abbrev pub first_failing : List (Option Refusal) → Option Refusal
first_failing [] = None
first_failing (None ∷ tests) = first_failing tests
first_failing (Some r ∷ tests) = Some r

-- ---- adds

-- what is wrong with an archive
abbrev pub archive_fault : Result Tree NarError → Option Refusal
archive_fault (Ok t) = None
archive_fault (Err e) = archive_refusal e

-- what is wrong with a derivation text
abbrev pub outputs_fault : Result (List (List ℕ × Path)) DrvError → Option Refusal
outputs_fault (Ok outputs) = None
outputs_fault (Err e) = derivation_refusal e

-- what is wrong with a tree as a derivation: any other node than a regular file has no text
abbrev pub tree_fault : List ℕ → Result Tree NarError → Option Refusal
tree_fault dir (Ok (regular executable contents)) = outputs_fault (outputs_of dir contents)
tree_fault dir _ = Some BadDerivation

-- asked where the name ends in `.drv`
abbrev pub if_derivation : Path → Option Refusal → Option Refusal
if_derivation p fault = if is_derivation p then fault else None

-- whether the content address of an object verifies, if it has one
abbrev pub is_verified : List ℕ → Path → Object → Option ContentAddress → Bool
is_verified dir p o None = true
is_verified dir p o (Some ca) = verifies ca dir p (finite.keys o.references) o.nar

-- each reference is valid, except the path itself; not asked of a path that is valid already
abbrev pub is_complete : World → Path → List Path → Bool
is_complete w p refs = has w p || list_all (λ r. has w r || same r p) refs

abbrev pub text_tests : List ℕ → World → Path → List Path → List ℕ → List (Option Refusal)
text_tests dir w p refs contents =
    unless (nat_le (length refs) most_references) TooManyReferences
    ∷ unless (nat_le (text_archive_size contents) limit) TooLarge
    ∷ unless (not (holds refs p)) SelfReference
    ∷ if_derivation p (outputs_fault (outputs_of dir contents))
    ∷ unless (is_complete w p refs) MissingReference
    ∷ []

abbrev pub source_tests : List ℕ → World → Path → List Path → List ℕ → List (Option Refusal)
source_tests dir w p refs b =
    unless (nat_le (length refs) most_references) TooManyReferences
    ∷ archive_fault (outcome_of b)
    ∷ unless (not (holds refs p)) SelfReference
    ∷ if_derivation p (tree_fault dir (outcome_of b))
    ∷ unless (is_complete w p refs) MissingReference
    ∷ []

abbrev pub import_tests : List ℕ → World → Imported → List (Option Refusal)
import_tests dir w i =
    unless (nat_le (length i.refs) most_references) TooManyReferences
    ∷ archive_fault (outcome_of i.nar)
    ∷ unless (same (sha256 i.nar) i.nar_hash) NarHashMismatch
    ∷ unless (is_none i.ca || not (holds i.refs i.path)) SelfReference
    ∷ unless (is_verified dir i.path (added_import dir i).object i.ca) CaMismatch
    ∷ if_derivation i.path (tree_fault dir (outcome_of i.nar))
    ∷ unless (is_complete w i.path i.refs) MissingReference
    ∷ []

-- ---- each request

-- the tests of each request, in their order
abbrev pub tests : Settings → World → Request → List (Option Refusal)
tests s w (add_text name refs contents) =
    text_tests s.store_dir w (text_path s.store_dir name refs contents) refs contents
tests s w (add_source name refs b) = source_tests s.store_dir w (source_path s.store_dir name refs b) refs b
tests s w (import_object i) = import_tests s.store_dir w i
tests s w (info p) = unless (has w p) NotValid ∷ []
tests s w (nar p) = unless (has w p) NotValid ∷ []
tests s w (ls p) = unless (has w p) NotValid ∷ []
tests s w list = []
tests s w list_live = []
tests s w list_dead = []
tests s w list_roots = []
tests s w (list_roots_of p) = unless (has w p) NotValid ∷ []
tests s w (set_permanent name p) =
    unless (is_plain_name name) BadRootName
    ∷ unless (has w p) NotValid
    ∷ []
tests s w (drop_permanent name) =
    unless (is_plain_name name) BadRootName
    ∷ unless (finite.contains_key w.permanent name) NoRoot
    ∷ []
tests s w (set_user_root owner name p) =
    unless (is_plain_name owner && is_plain_name name) BadRootName
    ∷ unless (has w p) NotValid
    ∷ []
tests s w (drop_user_root owner name) =
    unless (is_plain_name owner && is_plain_name name) BadRootName
    ∷ unless (finite.contains_key w.user_roots (owner, name)) NoRoot
    ∷ []
tests s w (set_profile owner name p) =
    unless (is_plain_name owner && is_plain_name name) BadRootName
    ∷ unless (has w p) NotValid
    ∷ unless (nat_le (number_for (profile_at w (owner, name)) p) max_generation) GenerationLimit
    ∷ []
tests s w (rollback owner name) =
    unless (is_plain_name owner && is_plain_name name) BadRootName
    ∷ unless (has_profile w (owner, name)) NoProfile
    ∷ unless (is_some (previous (profile_at w (owner, name)))) NoOlderGeneration
    ∷ []
tests s w (switch owner name n) =
    unless (is_plain_name owner && is_plain_name name) BadRootName
    ∷ unless (has_profile w (owner, name)) NoProfile
    ∷ unless (has_generation (profile_at w (owner, name)) n) NoGeneration
    ∷ []
tests s w (delete_generation owner name n) =
    unless (is_plain_name owner && is_plain_name name) BadRootName
    ∷ unless (has_profile w (owner, name)) NoProfile
    ∷ unless (has_generation (profile_at w (owner, name)) n) NoGeneration
    ∷ unless (not ((profile_at w (owner, name)).current == n)) CurrentGeneration
    ∷ []
tests s w (replace_runtime pairs) = unless (list_all (λ p. is_runtime_label p.0) pairs) BadLabel ∷ []
tests s w (add_temp owner session p) =
    unless (is_plain_name owner) BadRootName
    ∷ unless (is_session session) BadSession
    ∷ unless (has w p) NotValid
    ∷ []
tests s w (end_session owner session) =
    unless (is_plain_name owner) BadRootName
    ∷ unless (is_session session) BadSession
    ∷ []
tests s w (collect ignores limit) = []
tests s w (delete named ignores) = unless (list_all (has w) named) NotValid ∷ []
tests s w report = []

-- the refusal of a request: that of its first test that fails
abbrev pub refusal : Settings → World → Request → Option Refusal
refusal s w q = first_failing (tests s w q)
