-- Which fault of an add is reported, where it has several.
use Rattle.std.proofs.Common.{◌≡◌, ℕ, ◌<◌, ◌≤◌, List, ◌∷◌, length, Bool, true, false, not, ◌||◌, Some, None, Option}
use Rattle.std.proofs.Common.{refl, sym, ap, arith, ◌∙◌, IsTrue}
use Rattle.std.specs.Prelude.{is_none, nat_le, IsFalse, Contains, Result, Ok, Err, if◌then◌else◌}
use Rattle.std.specs.List.{list_all}
use Rattle.std.specs.FinMap as finite
use Rattle.std.proofs.lemmas.Bool.{false≢true, false_from_ne_true, leb-true, le-leb, or_from}
use Rattle.sha2.specs.Sha256.{sha256}
use Rattle.nar.specs.declared.error.NarError.{NarError}
use Rattle.nar.specs.Tree.{Tree, regular, symlink, directory}
use Rattle.nar.specs.Archive.{limit}
use Rattle.nar.specs.Outcome.{outcome_of}
use Rattle.paths.specs.Root.{bytes_cmp, set_of}
use Rattle.paths.specs.StorePath.{is_derivation}
use Rattle.paths.specs.Path.{text_path, source_path}
use Rattle.paths.specs.ContentAddress.{ContentAddress, verifies}
use Rattle.drv.specs.declared.error.DrvError.{DrvError}
use Rattle.drv.specs.declared.error.DrvError.TheVariants.{BadDerivation}
use Rattle.drv.specs.Outcome.{outputs_of}
use Rattle.live.specs.Graph.{same, holds}
use Rattle.live.proofs.Groups.{held_is, is_held}
use Rattle.live.proofs.Reach.{same_is, same_itself}
use Rattle.model.specs.World.{Path, World, has}
use Rattle.model.specs.Objects.{most_references}
use Rattle.model.specs.Request.{Imported, add_text, add_source, import_object}
use Rattle.model.specs.declared.refusal.Refusal.{Refusal}
use Rattle.model.specs.declared.refusal.Refusal.TheVariants.{TooLarge, CaMismatch, MissingReference, NarHashMismatch}
use Rattle.model.specs.declared.refusal.Refusal.TheVariants.{SelfReference, TooManyReferences}
use Rattle.model.specs.Faults.{derivation_refusal}
use Rattle.model.specs.Adds.{added_import, text_archive, text_archive_size}
use Rattle.model.specs.Tests.{unless, first_failing, archive_fault, outputs_fault, tree_fault, if_derivation}
use Rattle.model.specs.Tests.{is_verified, is_complete}
use Rattle.laws.specs.AddOrder.{HasMissingReference, IsFaultyTree, text, other, IsRightTree, IsAsGiven}
use Rattle.laws.specs.AddOrder.{SourceFaultsInOrder, TextFaultsInOrder, ImportFaultsInOrder}
use Rattle.laws.proofs.Faults.{refused_with}
use Rattle.model.proofs.Passed.{all_member}
use Rattle.laws.proofs.AddFaults.{texts_are_measured}

-- ---- one test after another

goes_on : (t : Option Refusal) (ts : List (Option Refusal)) → t ≡ None → first_failing (t ∷ ts) ≡ first_failing ts
goes_on t ts e = ap (λ x. first_failing (x ∷ ts)) e

stops : (t : Option Refusal) (ts : List (Option Refusal)) (r : Refusal) → t ≡ Some r → first_failing (t ∷ ts) ≡ Some r
stops t ts r e = ap (λ x. first_failing (x ∷ ts)) e

holds_up : (b : Bool) (r : Refusal) → IsTrue b → unless b r ≡ None
holds_up b r e = ap (λ x. unless x r) e

breaks : (b : Bool) (r : Refusal) → IsFalse b → unless b r ≡ Some r
breaks b r e = ap (λ x. unless x r) e

few : (n m : ℕ) (r : Refusal) → n ≤ m → unless (nat_le n m) r ≡ None
few n m r le = holds_up (nat_le n m) r (le-leb n m le)

pub many : (n m : ℕ) (r : Refusal) → m < n → unless (nat_le n m) r ≡ Some r
many n m r lt = breaks (nat_le n m) r (false_from_ne_true (nat_le n m) (λ h. let le = leb-true n m h in omega arith))

no_self : (refs : List Path) (p : Path) → (Contains refs p → ⊥) → unless (not (holds refs p)) SelfReference ≡ None
no_self refs p out =
    holds_up (not (holds refs p)) SelfReference
    (ap not (false_from_ne_true (holds refs p) (λ h. out (held_is refs p h))))

pub a_self : (refs : List Path) (p : Path) → Contains refs p
    → unless (not (holds refs p)) SelfReference ≡ Some SelfReference
a_self refs p c = breaks (not (holds refs p)) SelfReference (ap not (is_held refs p c))

pub misses : (w : World) (p : Path) (refs : List Path) → HasMissingReference w p refs
    → unless (is_complete w p refs) MissingReference ≡ Some MissingReference
misses w p refs h =
    breaks (is_complete w p refs) MissingReference
    (or_from (has w p) (list_all (λ r. has w r || same r p) refs) h.fresh
    (false_from_ne_true (list_all (λ r. has w r || same r p) refs) (λ all.
    false≢true (sym (or_from (has w h.reference) (same h.reference p) h.missing
    (false_from_ne_true (same h.reference p) (λ e. h.other (same_is h.reference p e))))
    ∙ all_member (λ r. has w r || same r p) refs h.reference all h.listed))))

-- ---- derivations

pub asked : (p : Path) (f : Option Refusal) → IsTrue (is_derivation p) → if_derivation p f ≡ f
asked p f e = ap (λ b. if b then f else None) e

right : (p : Path) (f : Option Refusal) → (IsTrue (is_derivation p) → f ≡ None) → if_derivation p f ≡ None
right p f h = by (is_derivation p) h
  where
    by : (b : Bool) → (IsTrue b → f ≡ None) → (if b then f else None) ≡ None
    by true g = g refl
    by false g = refl

faulty : (dir : List ℕ) (t : Tree) (e : DrvError) → IsFaultyTree dir t e → tree_fault dir (Ok t) ≡ derivation_refusal e
faulty dir t e (text x contents is f) = ap (λ (u : Tree). tree_fault dir (Ok u)) is ∙ ap outputs_fault f
faulty dir (regular x contents) e (other apart is) = absurd (apart x contents refl)
faulty dir (symlink _) e (other apart is) = ap derivation_refusal (sym is)
faulty dir (directory _) e (other apart is) = ap derivation_refusal (sym is)

no_output_fault : (r : Result (List (List ℕ × Path)) DrvError) → ((e : DrvError) → r ≡ Err e → ⊥)
    → outputs_fault r ≡ None
no_output_fault (Ok found) h = refl
no_output_fault (Err e) h = absurd (h e refl)

no_tree_fault : (dir : List ℕ) (t : Tree) → ((e : DrvError) → IsFaultyTree dir t e → ⊥) → tree_fault dir (Ok t) ≡ None
no_tree_fault dir (regular x contents) h =
    no_output_fault (outputs_of dir contents) (λ e f. h e (text x contents refl f))
no_tree_fault dir (symlink target) h = absurd (h BadDerivation (other (λ x contents e. apart e) refl))
  where
    apart : {x : Bool} {contents : List ℕ} → symlink target ≡ regular x contents → ⊥
    apart e = cc
no_tree_fault dir (directory entries) h = absurd (h BadDerivation (other (λ x contents e. apart e) refl))
  where
    apart : {x : Bool} {contents : List ℕ} → directory entries ≡ regular x contents → ⊥
    apart e = cc

pub bad_tree : (dir : List ℕ) (p : Path) (r : Result Tree NarError) (t : Tree) (e : DrvError) → r ≡ Ok t
    → IsTrue (is_derivation p) → IsFaultyTree dir t e → if_derivation p (tree_fault dir r) ≡ derivation_refusal e
bad_tree dir p r t e is drv f = asked p (tree_fault dir r) drv ∙ ap (tree_fault dir) is ∙ faulty dir t e f

good_tree : (dir : List ℕ) (p : Path) (r : Result Tree NarError) (t : Tree) → r ≡ Ok t → IsRightTree dir p t
    → if_derivation p (tree_fault dir r) ≡ None
good_tree dir p r t is h =
    right p (tree_fault dir r) (λ drv. ap (tree_fault dir) is ∙ no_tree_fault dir t (λ e f. h e drv f))

-- ---- sources and texts

pub source_faults_in_order : SourceFaultsInOrder
source_faults_in_order s w c name refs b =
    let p = source_path s.store_dir name refs b in
    let less : length refs ≤ most_references → unless (nat_le (length refs) most_references) TooManyReferences ≡ None =
    few (length refs) most_references TooManyReferences in
    let read : (t : Tree) → outcome_of b ≡ Ok t → archive_fault (outcome_of b) ≡ None = λ t e. ap archive_fault e in
    record {
      count =
          λ more. refused_with s w c (add_source name refs b) TooManyReferences
          (stops _ _ _ (many (length refs) most_references TooManyReferences more));
      archive_ =
          λ le e r is reported. refused_with s w c (add_source name refs b) r
          (goes_on _ _ (less le) ∙ stops _ _ _ (ap archive_fault is ∙ reported));
      itself =
          λ le t is k. refused_with s w c (add_source name refs b) SelfReference
          (goes_on _ _ (less le) ∙ goes_on _ _ (read t is) ∙ stops _ _ _ (a_self refs p k));
      tree = λ le t is out drv e r f reported. refused_with s w c (add_source name refs b) r
          (goes_on _ _ (less le) ∙ goes_on _ _ (read t is) ∙ goes_on _ _ (no_self refs p out)
          ∙ stops _ _ _ (bad_tree s.store_dir p (outcome_of b) t e is drv f ∙ reported));
      reference = λ le t is out right_tree h. refused_with s w c (add_source name refs b) MissingReference
          (goes_on _ _ (less le) ∙ goes_on _ _ (read t is) ∙ goes_on _ _ (no_self refs p out)
          ∙ goes_on _ _ (good_tree s.store_dir p (outcome_of b) t is right_tree)
          ∙ stops _ _ _ (misses w p refs h));
    }

pub text_faults_in_order : TextFaultsInOrder
text_faults_in_order s w c name refs contents =
    let p = text_path s.store_dir name refs contents in
    let size = texts_are_measured contents in
    let less : length refs ≤ most_references → unless (nat_le (length refs) most_references) TooManyReferences ≡ None =
    few (length refs) most_references TooManyReferences in
    let fits : length (text_archive contents) ≤ limit
    → unless (nat_le (text_archive_size contents) limit) TooLarge ≡ None =
    λ le. few (text_archive_size contents) limit TooLarge (omega arith) in
    record {
      count =
          λ more. refused_with s w c (add_text name refs contents) TooManyReferences
          (stops _ _ _ (many (length refs) most_references TooManyReferences more));
      size =
          λ le more. refused_with s w c (add_text name refs contents) TooLarge
          (goes_on _ _ (less le) ∙ stops _ _ _ (many (text_archive_size contents) limit TooLarge (omega arith)));
      itself =
          λ le small k. refused_with s w c (add_text name refs contents) SelfReference
          (goes_on _ _ (less le) ∙ goes_on _ _ (fits small) ∙ stops _ _ _ (a_self refs p k));
      tree = λ le small out drv e r f reported. refused_with s w c (add_text name refs contents) r
          (goes_on _ _ (less le) ∙ goes_on _ _ (fits small) ∙ goes_on _ _ (no_self refs p out)
          ∙ stops _ _ _ (asked p (outputs_fault (outputs_of s.store_dir contents)) drv ∙ ap outputs_fault f
          ∙ reported));
      reference = λ le small out right_text h. refused_with s w c (add_text name refs contents) MissingReference
          (goes_on _ _ (less le) ∙ goes_on _ _ (fits small) ∙ goes_on _ _ (no_self refs p out)
          ∙ goes_on _ _ (right p (outputs_fault (outputs_of s.store_dir contents))
          (λ drv. no_output_fault (outputs_of s.store_dir contents) (λ e f. right_text e drv f)))
          ∙ stops _ _ _ (misses w p refs h));
    }

-- ---- imports

module _ (dir : List ℕ) (i : Imported) where
  abbrev is_selfless : Bool
  is_selfless = is_none i.ca || not (holds i.refs i.path)

  selfless : ((a : ContentAddress) → i.ca ≡ Some a → Contains i.refs i.path → ⊥)
      → unless is_selfless SelfReference ≡ None
  selfless h = by i.ca (λ a e. ap not (false_from_ne_true (holds i.refs i.path) (λ k. h a e (held_is i.refs i.path k))))
    where
      by : (ca : Option ContentAddress) → ((a : ContentAddress) → ca ≡ Some a → IsTrue (not (holds i.refs i.path)))
          → unless (is_none ca || not (holds i.refs i.path)) SelfReference ≡ None
      by None k = refl
      by (Some a) k = holds_up (not (holds i.refs i.path)) SelfReference (k a refl)

  pub selfish : (a : ContentAddress) → i.ca ≡ Some a → Contains i.refs i.path
      → unless is_selfless SelfReference ≡ Some SelfReference
  selfish a e c = ap (λ ca. unless (is_none ca || not (holds i.refs i.path)) SelfReference) e ∙ a_self i.refs i.path c

  verified : ((a : ContentAddress) → i.ca ≡ Some a
      → IsTrue (verifies a dir i.path (finite.keys (set_of bytes_cmp i.refs)) i.nar))
      → unless (is_verified dir i.path (added_import dir i).object i.ca) CaMismatch ≡ None
  verified h = by i.ca h
    where
      by : (ca : Option ContentAddress)
          → ((a : ContentAddress) → ca ≡ Some a
          → IsTrue (verifies a dir i.path (finite.keys (set_of bytes_cmp i.refs)) i.nar))
          → unless (is_verified dir i.path (added_import dir i).object ca) CaMismatch ≡ None
      by None k = refl
      by (Some a) k =
          holds_up (verifies a dir i.path (finite.keys (set_of bytes_cmp i.refs)) i.nar) CaMismatch (k a refl)

  pub mismatched : (a : ContentAddress) → i.ca ≡ Some a
      → IsFalse (verifies a dir i.path (finite.keys (set_of bytes_cmp i.refs)) i.nar)
      → unless (is_verified dir i.path (added_import dir i).object i.ca) CaMismatch ≡ Some CaMismatch
  mismatched a e f =
      ap (λ ca. unless (is_verified dir i.path (added_import dir i).object ca) CaMismatch) e
      ∙ breaks (verifies a dir i.path (finite.keys (set_of bytes_cmp i.refs)) i.nar) CaMismatch f

  -- the first three tests
  as_given : (t : Tree) → IsAsGiven i t → (ts : List (Option Refusal))
      → first_failing (unless (nat_le (length i.refs) most_references) TooManyReferences
      ∷ archive_fault (outcome_of i.nar) ∷ unless (same (sha256 i.nar) i.nar_hash) NarHashMismatch ∷ ts)
      ≡ first_failing ts
  as_given t given ts =
      goes_on _ _ (few (length i.refs) most_references TooManyReferences given.few)
      ∙ goes_on _ _ (ap archive_fault given.read)
      ∙ goes_on _ _ (holds_up (same (sha256 i.nar) i.nar_hash) NarHashMismatch
      (ap (same (sha256 i.nar)) (sym given.digest) ∙ same_itself (sha256 i.nar)))

  no_other_self : (a : ContentAddress) → (Contains i.refs i.path → ⊥) → (x : ContentAddress) → i.ca ≡ Some x
      → Contains i.refs i.path → ⊥
  no_other_self a out x e c = out c

pub import_faults_in_order : ImportFaultsInOrder
import_faults_in_order s w c i =
    let dir = s.store_dir in
    record {
      count =
          λ more. refused_with s w c (import_object i) TooManyReferences
          (stops _ _ _ (many (length i.refs) most_references TooManyReferences more));
      archive_ =
          λ le e r is reported. refused_with s w c (import_object i) r
          (goes_on _ _ (few (length i.refs) most_references TooManyReferences le)
          ∙ stops _ _ _ (ap archive_fault is ∙ reported));
      itself =
          λ t given a e k. refused_with s w c (import_object i) SelfReference
          (as_given dir i t given _ ∙ stops _ _ _ (selfish dir i a e k));
      address =
          λ t given a e out f. refused_with s w c (import_object i) CaMismatch
          (as_given dir i t given _ ∙ goes_on _ _ (selfless dir i (no_other_self dir i a out))
          ∙ stops _ _ _ (mismatched dir i a e f));
      tree = λ t given ok drv e r f reported. refused_with s w c (import_object i) r
          (as_given dir i t given _ ∙ goes_on _ _ (selfless dir i ok.itself) ∙ goes_on _ _ (verified dir i ok.address)
          ∙ stops _ _ _ (bad_tree dir i.path (outcome_of i.nar) t e given.read drv f ∙ reported));
      reference = λ t given ok right_tree h. refused_with s w c (import_object i) MissingReference
          (as_given dir i t given _ ∙ goes_on _ _ (selfless dir i ok.itself) ∙ goes_on _ _ (verified dir i ok.address)
          ∙ goes_on _ _ (good_tree dir i.path (outcome_of i.nar) t given.read right_tree)
          ∙ stops _ _ _ (misses w i.path i.refs h));
    }
