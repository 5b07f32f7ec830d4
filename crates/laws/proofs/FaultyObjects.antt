-- Objects with a fault aren't sound.
use Rattle.std.proofs.Common.{◌≡◌, ◌↔◌, ℕ, List, Some, option_map, sym, ap, subst, ◌∙◌, IsTrue}
use Rattle.std.specs.Prelude.{is_some, IsSome, Contains}
use Rattle.std.specs.Cmp.{Equal-is, eq_by_cmp_equiv}
use Rattle.std.specs.Cmp.Lexicographic.{nat_list_cmp_total}
use Rattle.std.specs.FinMap as finite
use Rattle.std.proofs.lemmas.Map.Views.{Contains-from_any, list_any-from_Contains}
use Rattle.sha2.specs.Sha256.{sha256}
use Rattle.nar.specs.Tree.{Tree, IsBytes}
use Rattle.nar.specs.Archive.{archive, IsArchive}
use Rattle.nar.proofs.Bytes.{archive_bytes}
use Rattle.nar.proofs.Files.{spelling_bytes}
use Rattle.paths.specs.declared.content_address.Method.{Method}
use Rattle.paths.specs.declared.content_address.Method.TheVariants.{Text, Source}
use Rattle.paths.specs.Path.{IsPathOf}
use Rattle.paths.specs.Root.{bytes_cmp}
use Rattle.paths.specs.ContentAddress.{ContentAddress, IsAddressText, address_of, Fits, Verifies}
use Rattle.paths.proofs.Addresses.{address-is, address-back}
use Rattle.paths.proofs.Made.{verifying}
use Rattle.tables_sql.specs.Contents.{Contents, Stored}
use Rattle.model.specs.World.{Path}
use Rattle.tables_world.specs.Rows.{archive_in, references_in, object_in, address_in}
use Rattle.tables_schema.specs.declared.schema.Schema.{Schema}
use Rattle.tables_world.specs.Worlds.{rows_of, IsSoundBy}
use Rattle.laws.specs.CutArchives.{HasArchive, ArchivesAreReadWhole}
use Rattle.laws.specs.FaultyRows.{AreReferences, ExcludesFaultyObject, FaultyObjectsAreUnsound}
use Rattle.tables_world.proofs.Columns.{bytes_antisymmetric, object_at}
use Rattle.tables_world.proofs.SoundParts.{some_key}
use Rattle.tables_world.proofs.Reported.{get-reference}
use Rattle.laws.proofs.FaultyRows.{clash, row_sound, read_as}

keys_contain : (c : Contents) (p r : Path)
    → Contains (finite.keys (references_in (rows_of c) p)) r ↔ IsTrue (finite.contains_key c.refs (p, r))
keys_contain c p r =
    let m = references_in (rows_of c) p in (
      (λ h. sym (ap is_some (get-reference c p r)) ∙ finite.contains_key-keys m r
          ∙ list_any-from_Contains (eq_by_cmp_equiv nat_list_cmp_total) r (finite.keys m) h),
      (λ h. Contains-from_any (λ x y t. bytes_antisymmetric x y ((Equal-is (bytes_cmp x y)).0 t)) r (finite.keys m)
          (sym (finite.contains_key-keys m r) ∙ ap is_some (get-reference c p r) ∙ h)),
    )

made_by : (kind dir name : List ℕ) (refs others : List Path) (inner base : List ℕ)
    → ((r : Path) → Contains refs r ↔ Contains others r) → IsPathOf kind dir name refs inner base
    → IsPathOf kind dir name others inner base
made_by kind dir name refs others inner base same h = record {
  ordered = h.ordered;
  in_order =
      record {
        rising = h.in_order.rising;
        same = λ r. ((λ x. (same r).0 ((h.in_order.same r).0 x)), (λ x. (h.in_order.same r).1 ((same r).1 x)));
      };
  of = h.of;
}

fits_by : (method : Method) (digest dir p : List ℕ) (refs others : List Path) (nar : List ℕ)
    → ((r : Path) → Contains refs r ↔ Contains others r) → Fits method digest dir p refs nar
    → Fits method digest dir p others nar
fits_by Text digest dir p refs others nar same h =
    record {
      contents = h.contents;
      archive = h.archive;
      hash = h.hash;
      made = made_by _ dir _ refs others _ p same h.made;
    }
fits_by Source digest dir p refs others nar same h =
    record { hash = h.hash; made = made_by _ dir _ refs others _ p same h.made }

bytes_of : (t : Tree) (nar : List ℕ) → IsArchive t nar → IsBytes nar
bytes_of t nar a = subst IsBytes (sym a.spells) (spelling_bytes (archive t) (archive_bytes t a.legal))

module _ (c : Contents) (p : Path) (o : Stored) (row : finite.get c.objects p ≡ Some o) where
  module _ (schema : Schema) (dir : List ℕ) (sound : IsSoundBy schema dir c) where
    verified : (nar text : List ℕ) (ca : ContentAddress) (references : List Path) → HasArchive c p o nar
        → o.ca ≡ Some text → IsAddressText ca text → AreReferences c p references → Verifies ca dir p references nar
    verified nar text ca references h is spelled are =
        let addressed : address_in o.ca ≡ Some ca =
        ap address_in is ∙ address-back ca.method ca.digest text spelled.digest spelled.bytes spelled.spells in
        let found =
        (verifying ca dir p (finite.keys (references_in (rows_of c) p)) (archive_in (rows_of c) p o)
        (bytes_of (row_sound c p o row schema dir sound).tree (archive_in (rows_of c) p o)
        (row_sound c p o row schema dir sound).archive)).0
        ((row_sound c p o row schema dir sound).address ca addressed) in
        subst (λ b. Verifies ca dir p references b) (read_as c p o row schema dir sound nar h)
        (fits_by ca.method ca.digest dir p (finite.keys (references_in (rows_of c) p)) references
        (archive_in (rows_of c) p o)
        (λ r. ((λ x. (are r).1 ((keys_contain c p r).0 x)), (λ x. (keys_contain c p r).1 ((are r).0 x)))) found)

    to_itself : IsSome o.ca → IsTrue (finite.contains_key c.refs (p, p)) → ⊥
    to_itself some present =
        let text = some_key o.ca some in
        let ca = some_key (address_of text.0) ((row_sound c p o row schema dir sound).address_text text.0 text.1) in
        clash ((row_sound c p o row schema dir sound).no_self_reference ca.0 (ap address_in text.1 ∙ ca.1))
        (ap is_some (get-reference c p p) ∙ present)

  object_excludes : ExcludesFaultyObject c p o
  object_excludes = record {
    path = λ bad dir schema sound. clash bad (row_sound c p o row schema dir sound).path;
    deriver = λ d is bad dir schema sound. clash bad ((row_sound c p o row schema dir sound).deriver d is);
    no_archive = λ nar h none dir schema sound. let s =
        row_sound c p o row schema dir sound in
        none s.tree (subst (IsArchive s.tree) (read_as c p o row schema dir sound nar h) s.archive);
    other_digest =
        λ nar h other dir schema sound. other
        ((row_sound c p o row schema dir sound).hash ∙ ap sha256 (read_as c p o row schema dir sound nar h));
    no_address = λ text is none dir schema sound. let ca =
        some_key (address_of text) ((row_sound c p o row schema dir sound).address_text text is) in
        none ca.0 (address-is text ca.0 ca.1);
    other_address =
        λ dir nar text ca references h is spelled are other schema sound. other
        (verified schema dir sound nar text ca references h is spelled are);
    self_reference = λ some present dir schema sound. to_itself schema dir sound some present;
  }

pub faulty_objects : FaultyObjectsAreUnsound
faulty_objects c p o row = object_excludes c p o row

pub archives_reported : ArchivesAreReadWhole
archives_reported schema dir c sound p o nar row h = (
  object_in (rows_of c) p o,
  object_at (rows_of c) p ∙ ap (option_map (object_in (rows_of c) p)) row,
  read_as c p o row schema dir sound nar h,
)
