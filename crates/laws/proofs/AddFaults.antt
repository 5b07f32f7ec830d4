-- What an add is refused with.
use Rattle.std.proofs.Common.{◌≡◌, ℕ, List, [], ◌∷◌, length, Bool, true, false, not, ◌&&◌, ◌||◌, Some, None, Option}
use Rattle.std.proofs.Common.{refl, sym, ap, ◌∙◌, IsTrue}
use Rattle.std.specs.Prelude.{is_some, is_none, nat_le, IsFalse, Contains, Result, Ok, Err, if◌then◌else◌}
use Rattle.std.specs.List.{list_all}
use Rattle.std.proofs.lemmas.Bool.{false≢true, false_from_ne_true, le-leb}
use Rattle.sha2.specs.Sha256.{sha256}
use Rattle.nar.specs.declared.error.NarError.{NarError}
use Rattle.nar.specs.declared.error.NarError.TheVariants as archives
use Rattle.nar.specs.Tree.{Tree, regular}
use Rattle.nar.specs.Outcome.{outcome_of}
use Rattle.nar.proofs.Files.{length-file}
use Rattle.paths.specs.StorePath.{is_derivation}
use Rattle.drv.specs.declared.error.DrvError.{DrvError}
use Rattle.drv.specs.declared.error.DrvError.TheVariants as texts
use Rattle.drv.specs.Outcome.{outputs_of}
use Rattle.live.specs.Graph.{same, holds}
use Rattle.live.proofs.Members.{at_head, behind}
use Rattle.live.proofs.Reach.{same_is, same_itself}
use Rattle.model.specs.World.{Path, has}
use Rattle.model.specs.Objects.{most_references}
use Rattle.model.specs.Request.{import_object}
use Rattle.model.specs.declared.refusal.Refusal.{Refusal}
use Rattle.model.specs.declared.refusal.Refusal.TheVariants.{CaMismatch, MissingReference, NarHashMismatch}
use Rattle.model.specs.declared.refusal.Refusal.TheVariants.{SelfReference, TooManyReferences}
use Rattle.model.specs.Adds.{text_archive, added_import}
use Rattle.model.specs.Tests.{unless, first_failing, archive_fault, outputs_fault, tree_fault, if_derivation}
use Rattle.model.specs.Tests.{is_verified, is_complete}
use Rattle.laws.specs.AddFaults.{TextsAreMeasured, DigestsComeFirst, MissingAreMissing}
use Rattle.laws.proofs.Faults.{refused_with}

pub texts_are_measured : TextsAreMeasured
unfolding text_archive
texts_are_measured contents = sym (length-file contents)

-- ---- digests

third_fails : (a d : Bool) (f : Option Refusal) (q r : Refusal) (ts : List (Option Refusal)) → IsTrue a → f ≡ None
    → IsFalse d → first_failing (unless a q ∷ f ∷ unless d r ∷ ts) ≡ Some r
third_fails false d f q r ts h k l = absurd (false≢true h)
third_fails true d (Some x) q r ts h k l = absurd (false≢true (sym (ap is_some k)))
third_fails true true None q r ts h k l = absurd (false≢true (sym l))
third_fails true false None q r ts h k l = refl

pub digests_come_first : DigestsComeFirst
digests_come_first s w c i t reply new h few read other =
    refused_with s w c (import_object i) NarHashMismatch
    (third_fails _ (same (sha256 i.nar) i.nar_hash) (archive_fault (outcome_of i.nar)) TooManyReferences NarHashMismatch
    _ (le-leb _ most_references few) (ap archive_fault read)
    (false_from_ne_true (same (sha256 i.nar) i.nar_hash) (λ e. other (same_is (sha256 i.nar) i.nar_hash e))))
    reply new h

-- ---- missing references

-- whether a refusal is that a reference is missing
is_missing : Option Refusal → Bool
is_missing (Some MissingReference) = true
is_missing _ = false

this_or_later : (t : Option Refusal) (ts : List (Option Refusal)) → is_missing t ≡ false
    → first_failing (t ∷ ts) ≡ Some MissingReference → first_failing ts ≡ Some MissingReference
unfolding is_missing
this_or_later None ts n e = e
this_or_later (Some r) ts n e = absurd (false≢true (sym n ∙ ap is_missing e))

not_unless : (b : Bool) (r : Refusal) → is_missing (Some r) ≡ false → is_missing (unless b r) ≡ false
unfolding is_missing
not_unless true r n = refl
not_unless false r n = n

not_archive : (x : Result Tree NarError) → is_missing (archive_fault x) ≡ false
unfolding is_missing
not_archive (Ok t) = refl
not_archive (Err archives.Truncated) = refl
not_archive (Err archives.BadTag) = refl
not_archive (Err archives.BadPadding) = refl
not_archive (Err archives.BadName) = refl
not_archive (Err archives.NotSorted) = refl
not_archive (Err archives.TooDeep) = refl
not_archive (Err archives.Trailing) = refl
not_archive (Err archives.TooLarge) = refl
not_archive (Err archives.Memory) = refl

not_outputs : (x : Result (List (List ℕ × Path)) DrvError) → is_missing (outputs_fault x) ≡ false
unfolding is_missing
not_outputs (Ok t) = refl
not_outputs (Err texts.BadDerivation) = refl
not_outputs (Err texts.DoubleOutput) = refl
not_outputs (Err texts.Memory) = refl

not_tree : (dir : List ℕ) (x : Result Tree NarError) → is_missing (tree_fault dir x) ≡ false
unfolding is_missing
not_tree dir (Ok (regular executable contents)) = not_outputs (outputs_of dir contents)
not_tree dir _ = refl

not_derivation : (b : Bool) (f : Option Refusal) → is_missing f ≡ false → is_missing (if b then f else None) ≡ false
unfolding is_missing
not_derivation true f n = n
not_derivation false f n = refl

one_misses : (f : Path → Bool) (xs : List Path) → list_all f xs ≡ false → (x : Path) × Contains xs x × IsFalse (f x)
one_misses f [] e = absurd (false≢true (sym e))
one_misses f (x ∷ xs) e = by (f x) refl e (λ later. one_misses f xs later)
  where
    by : (b : Bool) → f x ≡ b → b && list_all f xs ≡ false
        → (list_all f xs ≡ false → (y : Path) × Contains xs y × IsFalse (f y))
        → (y : Path) × Contains (x ∷ xs) y × IsFalse (f y)
    by true h k later = let r = later k in (r.0, behind x r.0 xs r.1, r.2)
    by false h k later = (x, at_head x xs, h)

neither : (a b : Bool) → a || b ≡ false → IsFalse a × IsFalse b
neither true b e = absurd (false≢true (sym e))
neither false b e = (refl, e)

last_fails : (b : Bool) → first_failing (unless b MissingReference ∷ []) ≡ Some MissingReference → b ≡ false
last_fails true e = absurd (false≢true (ap is_some e))
last_fails false e = refl

after_six : (t1 t2 t3 t4 t5 t6 : Option Refusal) (b : Bool) → is_missing t1 ≡ false → is_missing t2 ≡ false
    → is_missing t3 ≡ false → is_missing t4 ≡ false → is_missing t5 ≡ false → is_missing t6 ≡ false
    → first_failing (t1 ∷ t2 ∷ t3 ∷ t4 ∷ t5 ∷ t6 ∷ unless b MissingReference ∷ []) ≡ Some MissingReference → b ≡ false
after_six t1 t2 t3 t4 t5 t6 b n1 n2 n3 n4 n5 n6 e =
    let last = unless b MissingReference ∷ [] in
    let e1 = this_or_later t1 (t2 ∷ t3 ∷ t4 ∷ t5 ∷ t6 ∷ last) n1 e in
    let e2 = this_or_later t2 (t3 ∷ t4 ∷ t5 ∷ t6 ∷ last) n2 e1 in
    let e3 = this_or_later t3 (t4 ∷ t5 ∷ t6 ∷ last) n3 e2 in
    let e4 = this_or_later t4 (t5 ∷ t6 ∷ last) n4 e3 in
    let e5 = this_or_later t5 (t6 ∷ last) n5 e4 in
    last_fails b (this_or_later t6 last n6 e5)

pub missing_are_missing : MissingAreMissing
unfolding is_missing
missing_are_missing s w c i new h =
    let few = nat_le (length i.refs) most_references in
    let digest = same (sha256 i.nar) i.nar_hash in
    let no_self = is_none i.ca || not (holds i.refs i.path) in
    let verified = is_verified s.store_dir i.path (added_import s.store_dir i).object i.ca in
    let tree = tree_fault s.store_dir (outcome_of i.nar) in
    let incomplete : is_complete w i.path i.refs ≡ false =
    after_six (unless few TooManyReferences) (archive_fault (outcome_of i.nar)) (unless digest NarHashMismatch)
    (unless no_self SelfReference)
    (unless verified CaMismatch) (if_derivation i.path tree) (is_complete w i.path i.refs)
    (not_unless few TooManyReferences refl) (not_archive (outcome_of i.nar)) (not_unless digest NarHashMismatch refl)
    (not_unless no_self SelfReference refl)
    (not_unless verified CaMismatch refl)
    (not_derivation (is_derivation i.path) tree (not_tree s.store_dir (outcome_of i.nar))) h.1 in
    let misses = neither (has w i.path) (list_all (λ r. has w r || same r i.path) i.refs) incomplete in
    let r = one_misses (λ r. has w r || same r i.path) i.refs misses.1 in
    let not_there = neither (has w r.0) (same r.0 i.path) r.2 in
    (r.0, r.1, (λ is. false≢true (sym not_there.1 ∙ ap (λ x. same x i.path) is ∙ same_itself i.path)), not_there.0)
