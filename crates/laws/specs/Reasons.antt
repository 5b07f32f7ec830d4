-- Laws of reasons: a request is refused for a fault that it has, and a deletion denied for the first of the named paths
-- that is live.
use Rattle.std.specs.Prelude.{◌≡◌, ℕ, ◌<◌, ◌≤◌, ◌++◌, Bool, List, ◌∷◌, length, Option, Some, Ok, Err, IsTrue, IsFalse}
use Rattle.std.specs.Prelude.{Contains}
use Rattle.std.specs.FinMap as finite
use Rattle.sha2.specs.Sha256.{sha256}
use Rattle.nar.specs.declared.error.NarError.{NarError}
use Rattle.nar.specs.Tree.{Tree}
use Rattle.nar.specs.Outcome.{outcome_of}
use Rattle.paths.specs.Names.{is_plain_name}
use Rattle.paths.specs.StorePath.{is_derivation}
use Rattle.paths.specs.Root.{Root, bytes_cmp, set_of, is_runtime_label}
use Rattle.paths.specs.Path.{text_path, source_path}
use Rattle.paths.specs.ContentAddress.{ContentAddress, verifies}
use Rattle.drv.specs.declared.error.DrvError.{DrvError}
use Rattle.drv.specs.declared.error.DrvError.TheVariants as text
use Rattle.drv.specs.Outcome.{outputs_of}
use Rattle.live.specs.Live.{IsFirstRoot}
use Rattle.policy.specs.Settings.{Settings}
use Rattle.policy.specs.Caller.{Caller}
use Rattle.policy.specs.Class.{class_of}
use Rattle.policy.specs.declared.kinds.Rule.TheVariants.{Live}
use Rattle.model.specs.World.{Path, Pair, World, has, roots_of}
use Rattle.model.specs.Request.{Request, add_text, add_source, import_object, info, nar, ls, list_roots_of}
use Rattle.model.specs.Request.{set_permanent, drop_permanent, set_user_root, drop_user_root, set_profile, rollback}
use Rattle.model.specs.Request.{switch, delete_generation, replace_runtime, add_temp, end_session, delete}
use Rattle.model.specs.Reply.{Answer, done, denied, refused}
use Rattle.model.specs.declared.refusal.Refusal.{Refusal}
use Rattle.model.specs.declared.refusal.Refusal.TheVariants.{TooLarge, CaMismatch, BadDerivation, DoubleOutput}
use Rattle.model.specs.declared.refusal.Refusal.TheVariants.{NotValid, MissingReference, NarHashMismatch, SelfReference}
use Rattle.model.specs.declared.refusal.Refusal.TheVariants.{NoRoot, NoProfile, NoGeneration, CurrentGeneration}
use Rattle.model.specs.declared.refusal.Refusal.TheVariants.{NoOlderGeneration, GenerationLimit, TooManyReferences}
use Rattle.model.specs.declared.refusal.Refusal.TheVariants.{BadRootName, BadLabel, BadSession}
use Rattle.model.specs.Faults.{archive_refusal}
use Rattle.model.specs.Liveness.{graph_of, keep_of, lives}
use Rattle.model.specs.Seen.{seen_root}
use Rattle.model.specs.Profiles.{profile_at, has_profile, has_generation}
use Rattle.model.specs.Adds.{text_archive}
use Rattle.laws.specs.Faults.{HasBadName, IsInBounds}
use Rattle.laws.specs.Generations.{IsNumberFor}
use Rattle.laws.specs.AddOrder.{HasMissingReference, IsFaultyTree}
use Rattle.model.specs.Step.{Step}

-- ---- refusals

-- the content address with which an object is passed doesn't verify
pub record IsNoAddressOf (dir path : List ℕ) (refs : List Path) (nar : List ℕ)
    (ca : Option ContentAddress) : Type 0 where
  pub given : ContentAddress
  pub is : ca ≡ Some given
  pub fails : IsFalse (verifies given dir path (finite.keys (set_of bytes_cmp refs)) nar)

-- the bytes are no archive, and this refusal is that of their fault
pub record IsNoArchive (nar : List ℕ) (r : Refusal) : Type 0 where
  pub fault : NarError
  pub read : outcome_of nar ≡ Err fault
  pub reported : archive_refusal fault ≡ Some r

-- the path's name ends in `.drv`, and the tree of the archive has this fault as that of a derivation
pub record IsNoDerivation (dir path nar : List ℕ) (fault : DrvError) : Type 0 where
  pub named : IsTrue (is_derivation path)
  pub tree : Tree
  pub read : outcome_of nar ≡ Ok tree
  pub faulty : IsFaultyTree dir tree fault

-- The fault of a request that a refusal reports, a line each: no request has any other.
abbrev pub HasFault : Settings → World → Request → Refusal → Type 0
HasFault s w (info p) NotValid = IsFalse (has w p)
HasFault s w (nar p) NotValid = IsFalse (has w p)
HasFault s w (ls p) NotValid = IsFalse (has w p)
HasFault s w (list_roots_of p) NotValid = IsFalse (has w p)
HasFault s w (set_permanent name p) BadRootName = IsFalse (is_plain_name name)
HasFault s w (set_permanent name p) NotValid = IsFalse (has w p)
HasFault s w (drop_permanent name) BadRootName = IsFalse (is_plain_name name)
HasFault s w (drop_permanent name) NoRoot = IsFalse (finite.contains_key w.permanent name)
HasFault s w (set_user_root owner name p) BadRootName = HasBadName (set_user_root owner name p)
HasFault s w (set_user_root owner name p) NotValid = IsFalse (has w p)
HasFault s w (drop_user_root owner name) BadRootName = HasBadName (drop_user_root owner name)
HasFault s w (drop_user_root owner name) NoRoot = IsFalse (finite.contains_key w.user_roots (owner, name))
HasFault s w (set_profile owner name p) BadRootName = HasBadName (set_profile owner name p)
HasFault s w (set_profile owner name p) NotValid = IsFalse (has w p)
HasFault s w (set_profile owner name p) GenerationLimit =
    (n : ℕ) × IsNumberFor (profile_at w (owner, name)) p n × (9999 < n)
HasFault s w (rollback owner name) BadRootName = HasBadName (rollback owner name)
HasFault s w (rollback owner name) NoProfile = IsFalse (has_profile w (owner, name))
HasFault s w (rollback owner name) NoOlderGeneration =
    (n : ℕ) → IsTrue (has_generation (profile_at w (owner, name)) n) → (profile_at w (owner, name)).current ≤ n
HasFault s w (switch owner name n) BadRootName = HasBadName (switch owner name n)
HasFault s w (switch owner name n) NoProfile = IsFalse (has_profile w (owner, name))
HasFault s w (switch owner name n) NoGeneration = IsFalse (has_generation (profile_at w (owner, name)) n)
HasFault s w (delete_generation owner name n) BadRootName = HasBadName (delete_generation owner name n)
HasFault s w (delete_generation owner name n) NoProfile = IsFalse (has_profile w (owner, name))
HasFault s w (delete_generation owner name n) NoGeneration = IsFalse (has_generation (profile_at w (owner, name)) n)
HasFault s w (delete_generation owner name n) CurrentGeneration = (profile_at w (owner, name)).current ≡ n
HasFault s w (replace_runtime pairs) BadLabel = (pair : Pair) × Contains pairs pair × IsFalse (is_runtime_label pair.0)
HasFault s w (add_temp owner session p) BadRootName = IsFalse (is_plain_name owner)
HasFault s w (add_temp owner session p) BadSession = IsInBounds session → ⊥
HasFault s w (add_temp owner session p) NotValid = IsFalse (has w p)
HasFault s w (end_session owner session) BadRootName = IsFalse (is_plain_name owner)
HasFault s w (end_session owner session) BadSession = IsInBounds session → ⊥
HasFault s w (delete named ignores) NotValid = (p : Path) × Contains named p × IsFalse (has w p)
HasFault s w (add_text name refs contents) TooManyReferences = 4096 < length refs
HasFault s w (add_text name refs contents) TooLarge = 16777216 < length (text_archive contents)
HasFault s w (add_text name refs contents) SelfReference = Contains refs (text_path s.store_dir name refs contents)
HasFault s w (add_text name refs contents) BadDerivation =
    IsTrue (is_derivation (text_path s.store_dir name refs contents))
    × (outputs_of s.store_dir contents ≡ Err text.BadDerivation)
HasFault s w (add_text name refs contents) DoubleOutput =
    IsTrue (is_derivation (text_path s.store_dir name refs contents))
    × (outputs_of s.store_dir contents ≡ Err text.DoubleOutput)
HasFault s w (add_text name refs contents) MissingReference =
    HasMissingReference w (text_path s.store_dir name refs contents) refs
HasFault s w (add_source name refs b) TooManyReferences = 4096 < length refs
HasFault s w (add_source name refs b) SelfReference = Contains refs (source_path s.store_dir name refs b)
HasFault s w (add_source name refs b) BadDerivation =
    IsNoDerivation s.store_dir (source_path s.store_dir name refs b) b text.BadDerivation
HasFault s w (add_source name refs b) DoubleOutput =
    IsNoDerivation s.store_dir (source_path s.store_dir name refs b) b text.DoubleOutput
HasFault s w (add_source name refs b) MissingReference =
    HasMissingReference w (source_path s.store_dir name refs b) refs
HasFault s w (add_source name refs b) r = IsNoArchive b r
HasFault s w (import_object i) TooManyReferences = 4096 < length i.refs
HasFault s w (import_object i) NarHashMismatch = sha256 i.nar ≡ i.nar_hash → ⊥
HasFault s w (import_object i) SelfReference = ((a : ContentAddress) × (i.ca ≡ Some a)) × Contains i.refs i.path
HasFault s w (import_object i) CaMismatch = IsNoAddressOf s.store_dir i.path i.refs i.nar i.ca
HasFault s w (import_object i) BadDerivation = IsNoDerivation s.store_dir i.path i.nar text.BadDerivation
HasFault s w (import_object i) DoubleOutput = IsNoDerivation s.store_dir i.path i.nar text.DoubleOutput
HasFault s w (import_object i) MissingReference = HasMissingReference w i.path i.refs
HasFault s w (import_object i) r = IsNoArchive i.nar r
HasFault s w _ _ = ⊥

-- a request that is refused has the fault that is reported
abbrev pub RefusalsHaveReasons : Type 0
RefusalsHaveReasons =
    (s : Settings) (w : World) (c : Caller) (q : Request) (r : Refusal) (new : World) → Step s w c q (refused r) new
    → HasFault s w q r

-- The converse: a request that has a fault isn't done. It is refused for this fault or one that is tested before it,
-- unless a rule denies it or it fails.
abbrev pub FaultsAreNotDone : Type 0
FaultsAreNotDone =
    (s : Settings) (w : World) (c : Caller) (q : Request) (a : Answer) (new : World) → Step s w c q (done a) new
    → (r : Refusal) → HasFault s w q r → ⊥

-- a path of which something is answered is valid
pub record MentionsTheValid (s : Settings) (w : World) (c : Caller) (p : Path) : Type 0 where
  pub info_ : (a : Answer) (new : World) → Step s w c (info p) (done a) new → IsTrue (has w p)
  pub nar_ : (a : Answer) (new : World) → Step s w c (nar p) (done a) new → IsTrue (has w p)
  pub ls_ : (a : Answer) (new : World) → Step s w c (ls p) (done a) new → IsTrue (has w p)
  pub roots : (a : Answer) (new : World) → Step s w c (list_roots_of p) (done a) new → IsTrue (has w p)

abbrev pub MentionedAreValid : Type 0
MentionedAreValid = (s : Settings) (w : World) (c : Caller) (p : Path) → MentionsTheValid s w c p

-- ---- denials

-- of the paths to be deleted, in the order given, this is the first that lives, and its first root is shown
pub record ShowsTheFirst (s : Settings) (w : World) (c : Caller) (named : List Path) (root : Option Pair) : Type 0 where
  pub before : List Path
  pub path : Path
  pub after : List Path
  pub split : named ≡ before ++ path ∷ after
  pub none_before : (p : Path) → Contains before p → IsFalse (lives s w p)
  pub alive : IsTrue (lives s w path)
  pub first : Root
  pub is_first : IsFirstRoot (keep_of s) (graph_of w) (roots_of w) path first
  pub is_shown : root ≡ Some (seen_root (class_of s c) first)

abbrev pub DenialsAreForTheFirst : Type 0
DenialsAreForTheFirst =
    (s : Settings) (w : World) (c : Caller) (named : List Path) (ignores : Bool) (root : Option Pair) (new : World)
    → Step s w c (delete named ignores) (denied Live root) new → ShowsTheFirst s w c named root
