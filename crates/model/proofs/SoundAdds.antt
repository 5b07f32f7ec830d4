-- A sound world with an object more.
use Rattle.std.proofs.Common.{◌≡◌, ℕ, ◌+◌, ◌≤◌, List, [], ◌∷◌, ◌++◌, length, Bool, true, false, not, ◌||◌, cond, Some}
use Rattle.std.proofs.Common.{None, Option, Ok, Err, Result, refl, sym, ap, arith, ◌∙◌, IsTrue, subst, inl, inr, ◌⊎◌}
use Rattle.std.specs.Prelude.{is_some, is_none, nat_le, if◌then◌else◌, codes}
use Rattle.std.specs.List.{list_all}
use Rattle.std.specs.Cmp.Lexicographic.{nat_list_cmp_total}
use Rattle.std.specs.FinMap as finite
use Rattle.std.proofs.lemmas.Bool.{or_cases, false≢true, not-true, leb-true}
use Rattle.std.proofs.lemmas.Option.{same_Some}
use Rattle.sha2.specs.Sha256.{sha256}
use Rattle.nar.specs.declared.error.NarError.{NarError}
use Rattle.nar.specs.Tree.{Tree, regular, symlink, directory, IsBytes}
use Rattle.nar.specs.Archive.{IsArchive, archive as parts_of, limit}
use Rattle.nar.specs.Outcome.{outcome_of}
use Rattle.nar.proofs.Decided.{outcome_archive}
use Rattle.nar.proofs.Bytes.{archive_bytes}
use Rattle.nar.proofs.Files.{length-file, spelling_bytes}
use Rattle.paths.specs.Names.{is_store_name}
use Rattle.paths.specs.StorePath.{is_base_name, is_derivation}
use Rattle.paths.specs.Root.{bytes_cmp, Set, set_of}
use Rattle.paths.specs.Base32.{base32}
use Rattle.paths.specs.Fold.{fold20}
use Rattle.paths.specs.Path.{fingerprint_of, in_path_order, path_of, text_path, source_path}
use Rattle.paths.proofs.Made.{text-base, source-base, texts-verify, sources-verify}
use Rattle.live.specs.Graph.{same, holds}
use Rattle.live.proofs.Reach.{same_is}
use Rattle.live.proofs.Order.{contains_key-set_of, same_set}
use Rattle.policy.specs.Settings.{Settings}
use Rattle.paths.specs.ContentAddress.{ContentAddress, verifies, text_address, source_address}
use Rattle.drv.specs.Outcome.{outputs_of}
use Rattle.model.specs.World.{Path, Object, World, has}
use Rattle.model.specs.Objects.{most_references}
use Rattle.model.specs.Sound.{IsDerivation, IsSoundObject, IsSound}
use Rattle.model.specs.Request.{Imported, add_text, add_source, import_object}
use Rattle.model.specs.declared.refusal.Refusal.{Refusal}
use Rattle.model.specs.declared.refusal.Refusal.TheVariants.{CaMismatch, MissingReference, SelfReference}
use Rattle.model.specs.declared.refusal.Refusal.TheVariants.{TooManyReferences}
use Rattle.model.specs.Adds.{Added, added_at, text_archive, text_archive_size, added_text, added_source, added_import}
use Rattle.model.specs.Tests.{archive_fault, outputs_fault, tree_fault, if_derivation, is_verified, is_complete}
use Rattle.model.specs.Tests.{text_tests, source_tests, import_tests, refusal}
use Rattle.model.specs.Effects.{with_object}
use Rattle.model.specs.Soundness.{IsWellFormedImport}
use Rattle.model.proofs.MapMembers.{bytes_antisymmetric, inserted_entry, still_contains, contains_key-inserted}
use Rattle.model.proofs.MapMembers.{set_member}
use Rattle.model.proofs.Passed.{met, each_passed, all_member}
use Rattle.model.proofs.Read.{archive_is_read, outputs_are_read}
use Rattle.model.proofs.SoundParts.{object_in, profile_in}

-- ---- the world grows

abbrev grown : World → Added → World
grown w a = record w { objects = finite.insert w.objects a.path a.object }

has_still : (w : World) (a : Added) (p : Path) → IsTrue (has w p) → IsTrue (has (grown w a) p)
has_still w a p h = still_contains nat_list_cmp_total bytes_antisymmetric w.objects a.path a.object p h

has_itself : (w : World) (a : Added) → IsTrue (has (grown w a) a.path)
has_itself w a = contains_key-inserted nat_list_cmp_total bytes_antisymmetric w.objects a.path a.object

grown_sound : (dir : List ℕ) (w : World) (a : Added) → IsSound dir w → IsSoundObject dir (grown w a) a.path a.object
    → IsSound dir (grown w a)
grown_sound dir w a sound fresh = record {
  objects = λ p o e. by p o (inserted_entry nat_list_cmp_total bytes_antisymmetric w.objects a.path a.object p o e);
  permanent_name = sound.permanent_name;
  permanent_target = λ name t e. has_still w a t (sound.permanent_target name t e);
  user_root_owner = sound.user_root_owner;
  user_root_name = sound.user_root_name;
  user_root_target = λ owned t e. has_still w a t (sound.user_root_target owned t e);
  profiles =
      λ owned p e. profile_in w (grown w a) owned p (sound.profiles owned p e)
      (λ n t f. has_still w a t ((sound.profiles owned p e).targets n t f));
  runtime_label = sound.runtime_label;
  runtime_target = λ x h. has_still w a x.1 (sound.runtime_target x h);
  temporary_owner = sound.temporary_owner;
  temporary_session = sound.temporary_session;
  temporary_target = λ t h. has_still w a t.path (sound.temporary_target t h);
}
  where
    by : (p : Path) (o : Object) → ((p ≡ a.path) × (a.object ≡ o)) ⊎ (finite.get w.objects p ≡ Some o)
        → IsSoundObject dir (grown w a) p o
    by p o (inl is) =
        subst (λ (x : Path). IsSoundObject dir (grown w a) x o) (sym is.0)
        (subst (λ (y : Object). IsSoundObject dir (grown w a) a.path y) is.1 fresh)
    by p o (inr old) =
        object_in dir w (grown w a) p o (sound.objects p o old)
        (λ r c. has_still w a r ((sound.objects p o old).references r c))

-- ---- references as a set

one_at_most : (b : Bool) (n m : ℕ) → n ≤ m → cond b n (n + 1) ≤ m + 1
one_at_most true n m h = omega arith
one_at_most false n m h = omega arith

len-set_of : (refs : List Path) → finite.len (set_of bytes_cmp refs) ≤ length refs
len-set_of [] = subst (λ (n : ℕ). n ≤ 0) (sym (finite.len-empty bytes_cmp (Unit {0}))) (omega arith)
len-set_of (r ∷ rs) =
    subst (λ (n : ℕ). n ≤ length (r ∷ rs)) (sym (finite.len-insert nat_list_cmp_total (set_of bytes_cmp rs) r tt))
    (step (one_at_most (finite.contains_key (set_of bytes_cmp rs) r) (finite.len (set_of bytes_cmp rs)) (length rs)
    (len-set_of rs)))
  where
    step : {n : ℕ} → n ≤ length rs + 1 → n ≤ length (r ∷ rs)
    step h = omega (arith, h)

reference_holds : (refs : List Path) (r : Path) → finite.contains_key (set_of bytes_cmp refs) r ≡ holds refs r
reference_holds refs r = contains_key-set_of nat_list_cmp_total refs r

complete_has : (w : World) (a : Added) (refs : List Path) → has w a.path ≡ false → IsTrue (is_complete w a.path refs)
    → (r : Path) → IsTrue (finite.contains_key (set_of bytes_cmp refs) r) → IsTrue (has (grown w a) r)
complete_has w a refs absent full r c =
    elim (or_cases (has w a.path) (list_all (λ x. has w x || same x a.path) refs) full) as (λ _. IsTrue
    (has (grown w a) r)) [
      | inl present ↦ absurd (false≢true (sym absent ∙ present))
      | inr all ↦ elim (or_cases (has w r) (same r a.path)
          (all_member (λ x. has w x || same x a.path) refs r all
          (set_member nat_list_cmp_total bytes_antisymmetric refs r c))) as (λ _. IsTrue (has (grown w a) r)) [
            | inl h ↦ has_still w a r h
            | inr h ↦ subst (λ (x : Path). IsTrue (has (grown w a) x)) (sym (same_is r a.path h)) (has_itself w a)
          ]
    ]

-- ---- archives and derivation texts

read_tree : (nar : List ℕ) → IsBytes nar → archive_fault (outcome_of nar) ≡ None → (t : Tree) × IsArchive t nar
read_tree nar bytes e = let read = archive_is_read nar e in (read.0, (outcome_archive nar read.0 bytes).0 read.1)

asked : (p : Path) (fault : Option Refusal) → if_derivation p fault ≡ None → IsTrue (is_derivation p) → fault ≡ None
asked p fault e h = sym (ap (λ b. if b then fault else None) h) ∙ e

read_derivation : (dir nar : List ℕ) → IsBytes nar → tree_fault dir (outcome_of nar) ≡ None → IsDerivation dir nar
read_derivation dir nar bytes e = by (outcome_of nar) refl e
  where
    by : (r : Result Tree NarError) → outcome_of nar ≡ r → tree_fault dir r ≡ None → IsDerivation dir nar
    by (Ok (regular executable contents)) is e = record {
      executable = executable;
      contents = contents;
      is_regular = (outcome_archive nar (regular executable contents) bytes).0 is;
      has_outputs = outputs_are_read dir contents e;
    }
    by (Ok (symlink target)) is e = absurd (false≢true (ap is_none e))
    by (Ok (directory es)) is e = absurd (false≢true (ap is_none e))
    by (Err f) is e = absurd (false≢true (ap is_none e))

text_is_archive : (contents : List ℕ) → IsBytes contents → IsTrue (nat_le (text_archive_size contents) limit)
    → IsArchive (regular false contents) (text_archive contents)
unfolding text_archive
text_is_archive contents bytes fits =
    let small = leb-true (text_archive_size contents) limit fits in
    record {
      legal = bytes;
      shallow = (tt, (tt, (tt, (tt, (tt, (tt, (tt, tt)))))));
      spells = refl;
      fits = omega (arith, length-file contents, small);
    }

text_is_bytes : (contents : List ℕ) → IsBytes contents → IsBytes (text_archive contents)
unfolding text_archive
text_is_bytes contents bytes =
    spelling_bytes (parts_of (regular false contents)) (archive_bytes (regular false contents) bytes)

-- ---- addresses over the references as a set

keys-set_of : (refs : List Path) → set_of bytes_cmp (finite.keys (set_of bytes_cmp refs)) ≡ set_of bytes_cmp refs
keys-set_of refs =
    same_set nat_list_cmp_total bytes_antisymmetric (set_of bytes_cmp (finite.keys (set_of bytes_cmp refs)))
    (set_of bytes_cmp refs) (λ k.
    contains_key-set_of nat_list_cmp_total (finite.keys (set_of bytes_cmp refs)) k
    ∙ sym (finite.contains_key-keys (set_of bytes_cmp refs) k))

-- a path over the references as a set is that over their list
pub same_path : (kind dir name : List ℕ) (refs : List Path) (inner : List ℕ)
    → path_of kind dir name (finite.keys (set_of bytes_cmp refs)) inner ≡ path_of kind dir name refs inner
unfolding path_of in_path_order
same_path kind dir name refs inner =
    ap (λ (m : Set bytes_cmp). base32 (fold20 (sha256 (fingerprint_of kind dir (finite.keys m) inner name)))
    ++ codes "-" ++ name) (keys-set_of refs)

text_verified : (dir name : List ℕ) (refs : List Path) (contents : List ℕ) → IsBytes contents
    → IsTrue (nat_le (text_archive_size contents) limit)
    → IsTrue (verifies (text_address contents) dir (text_path dir name refs contents)
    (finite.keys (set_of bytes_cmp refs)) (text_archive contents))
unfolding text_path
text_verified dir name refs contents bytes fits =
    subst (λ (p : Path). IsTrue (verifies (text_address contents) dir p (finite.keys (set_of bytes_cmp refs))
    (text_archive contents))) (same_path (codes "text") dir name refs (sha256 contents))
    (texts-verify dir name (finite.keys (set_of bytes_cmp refs)) contents (text_archive contents)
    (text_is_archive contents bytes fits) (text_is_bytes contents bytes))

source_verified : (dir name : List ℕ) (refs : List Path) (b : List ℕ)
    → IsTrue (verifies (source_address b) dir (source_path dir name refs b) (finite.keys (set_of bytes_cmp refs)) b)
unfolding source_path
source_verified dir name refs b =
    subst (λ (p : Path). IsTrue (verifies (source_address b) dir p (finite.keys (set_of bytes_cmp refs)) b))
    (same_path (codes "source") dir name refs (sha256 b))
    (sources-verify dir name (finite.keys (set_of bytes_cmp refs)) b)

-- ---- the new object

-- what an add has to show of its object
record IsFit (dir : List ℕ) (w : World) (p : Path) (refs : List Path) (deriver : Option Path)
    (ca : Option ContentAddress) (nar : List ℕ) : Type 0 where
  path : IsTrue (is_base_name p)
  tree : Tree
  archive : IsArchive tree nar
  base_deriver : (d : Path) → deriver ≡ Some d → IsTrue (is_base_name d)
  few : IsTrue (nat_le (length refs) most_references)
  full : IsTrue (is_complete w p refs)
  no_self : (a : ContentAddress) → ca ≡ Some a → holds refs p ≡ false
  address : (a : ContentAddress) → ca ≡ Some a → IsTrue (verifies a dir p (finite.keys (set_of bytes_cmp refs)) nar)
  derivation : IsTrue (is_derivation p) → IsDerivation dir nar

added_sound : (dir : List ℕ) (w : World) (p : Path) (refs : List Path) (deriver : Option Path)
    (ca : Option ContentAddress) (nar : List ℕ)
    → IsFit dir w p refs deriver ca nar → IsSound dir w
    → IsSound dir (with_object w (added_at dir p refs deriver ca nar))
added_sound dir w p refs deriver ca nar fit sound = by (has w p) refl
  where
    fresh : has w p ≡ false → IsSoundObject dir (grown w (added_at dir p refs deriver ca nar)) p
        (added_at dir p refs deriver ca nar).object
    fresh absent = record {
      path = fit.path;
      tree = fit.tree;
      archive = fit.archive;
      deriver = fit.base_deriver;
      references = complete_has w (added_at dir p refs deriver ca nar) refs absent fit.full;
      reference_count = few_enough (len-set_of refs) (leb-true (length refs) most_references fit.few);
      no_self_reference = λ a e. reference_holds refs p ∙ fit.no_self a e;
      address = fit.address;
      derivation = fit.derivation;
      outputs = refl;
    }
      where
        few_enough : {n m : ℕ} → n ≤ m → m ≤ 4096 → n ≤ 4096
        few_enough h k = omega (arith, h, k)

    by : (b : Bool) → has w p ≡ b → IsSound dir (if b then w else grown w (added_at dir p refs deriver ca nar))
    by true present = sound
    by false absent = grown_sound dir w (added_at dir p refs deriver ca nar) sound (fresh absent)

none_deriver : (d : Path) → None ≡ Some d → IsTrue (is_base_name d)
none_deriver d e = absurd (false≢true (ap is_some e))

-- ---- the three adds

module _ (s : Settings) (w : World) (sound : IsSound s.store_dir w) where
  pub text_sound : (name : List ℕ) (refs : List Path) (contents : List ℕ) → IsTrue (is_store_name name)
      → IsBytes contents → refusal s w (add_text name refs contents) ≡ None
      → IsSound s.store_dir (with_object w (added_text s.store_dir name refs contents))
  text_sound name refs contents named bytes e =
      let p = text_path s.store_dir name refs contents in
      let ts = text_tests s.store_dir w (text_path s.store_dir name refs contents) refs contents in
      let fits = met (nat_le (text_archive_size contents) limit) _ (each_passed ts e _ (1, omega arith, refl)) in
      added_sound s.store_dir w p refs None (Some (text_address contents)) (text_archive contents) (record {
        path = text-base s.store_dir name refs contents named;
        tree = regular false contents;
        archive = text_is_archive contents bytes fits;
        base_deriver = none_deriver;
        few = met (nat_le (length refs) most_references) TooManyReferences (each_passed ts e _ (0, omega arith, refl));
        full = met (is_complete w p refs) MissingReference (each_passed ts e _ (4, omega arith, refl));
        no_self =
            λ a is. not-true (holds refs p)
            (met (not (holds refs p)) SelfReference (each_passed ts e _ (2, omega arith, refl)));
        address =
            λ a is. subst (λ (x : ContentAddress). IsTrue
            (verifies x s.store_dir p (finite.keys (set_of bytes_cmp refs)) (text_archive contents)))
            (same_Some (text_address contents) a is) (text_verified s.store_dir name refs contents bytes fits);
        derivation = λ d. record {
          executable = false;
          contents = contents;
          is_regular = text_is_archive contents bytes fits;
          has_outputs =
              outputs_are_read s.store_dir contents
              (asked p (outputs_fault (outputs_of s.store_dir contents)) (each_passed ts e _ (3, omega arith, refl)) d);
        };
      }) sound

  pub source_sound : (name : List ℕ) (refs : List Path) (b : List ℕ) → IsTrue (is_store_name name) → IsBytes b
      → refusal s w (add_source name refs b) ≡ None
      → IsSound s.store_dir (with_object w (added_source s.store_dir name refs b))
  source_sound name refs b named bytes e =
      let p = source_path s.store_dir name refs b in
      let ts = source_tests s.store_dir w (source_path s.store_dir name refs b) refs b in
      let read = read_tree b bytes (each_passed ts e _ (1, omega arith, refl)) in
      added_sound s.store_dir w p refs None (Some (source_address b)) b (record {
        path = source-base s.store_dir name refs b named;
        tree = read.0;
        archive = read.1;
        base_deriver = none_deriver;
        few = met (nat_le (length refs) most_references) TooManyReferences (each_passed ts e _ (0, omega arith, refl));
        full = met (is_complete w p refs) MissingReference (each_passed ts e _ (4, omega arith, refl));
        no_self =
            λ a is. not-true (holds refs p)
            (met (not (holds refs p)) SelfReference (each_passed ts e _ (2, omega arith, refl)));
        address =
            λ a is. subst (λ (x : ContentAddress). IsTrue
            (verifies x s.store_dir p (finite.keys (set_of bytes_cmp refs)) b)) (same_Some (source_address b) a is)
            (source_verified s.store_dir name refs b);
        derivation =
            λ d. read_derivation s.store_dir b bytes
            (asked p (tree_fault s.store_dir (outcome_of b)) (each_passed ts e _ (3, omega arith, refl)) d);
      }) sound

  pub import_sound : (i : Imported) → IsWellFormedImport i → refusal s w (import_object i) ≡ None
      → IsSound s.store_dir (with_object w (added_import s.store_dir i))
  import_sound i formed e =
      let ts = import_tests s.store_dir w i in
      let read = read_tree i.nar formed.nar (each_passed ts e _ (1, omega arith, refl)) in
      added_sound s.store_dir w i.path i.refs i.deriver i.ca i.nar (record {
        path = formed.path;
        tree = read.0;
        archive = read.1;
        base_deriver = formed.deriver;
        few =
            met (nat_le (length i.refs) most_references) TooManyReferences (each_passed ts e _ (0, omega arith, refl));
        full = met (is_complete w i.path i.refs) MissingReference (each_passed ts e _ (6, omega arith, refl));
        no_self =
            λ a is. not-true (holds i.refs i.path)
            (addressed a is (met (is_none i.ca || not (holds i.refs i.path)) SelfReference
            (each_passed ts e _ (3, omega arith, refl))));
        address =
            λ a is. subst (λ (x : Option ContentAddress). IsTrue
            (is_verified s.store_dir i.path (added_import s.store_dir i).object x)) is
            (met (is_verified s.store_dir i.path (added_import s.store_dir i).object i.ca) CaMismatch
            (each_passed ts e _ (4, omega arith, refl)));
        derivation =
            λ d. read_derivation s.store_dir i.nar formed.nar
            (asked i.path (tree_fault s.store_dir (outcome_of i.nar)) (each_passed ts e _ (5, omega arith, refl)) d);
      }) sound
    where
      addressed : (a : ContentAddress) → i.ca ≡ Some a → IsTrue (is_none i.ca || not (holds i.refs i.path))
          → IsTrue (not (holds i.refs i.path))
      addressed a is h = sym (ap (λ (x : Option ContentAddress). is_none x || not (holds i.refs i.path)) is) ∙ h
