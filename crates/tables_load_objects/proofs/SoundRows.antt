-- What is tested of an object is what the world says of sound rows.
use Rattle.std.proofs.Common.{◌≡◌, ℕ, List, Bool, true, false, not, ◌≤◌, length, Some, None, Option, refl, sym, ap}
use Rattle.std.proofs.Common.{subst, ◌∙◌, IsTrue}
use Rattle.std.specs.Prelude.{◌↔◌, IsFalse, IsSome}
use Rattle.std.specs.List.{list_any}
use Rattle.std.specs.Str.{bytes_eq}
use Rattle.std.specs.Ordering.{eq_by_cmp}
use Rattle.std.specs.Cmp.Lexicographic.{texts_ties}
use Rattle.std.specs.FinMap as finite
use Rattle.std.proofs.lemmas.Bool.{false≢true}
use Rattle.paths.specs.StorePath.{is_base_name}
use Rattle.paths.specs.Root.{bytes_cmp, Set}
use Rattle.paths.specs.ContentAddress.{ContentAddress, address_of, verifies}
use Rattle.tables_sql.specs.Contents.{Stored}
use Rattle.model.specs.World.{Path}
use Rattle.model.specs.Objects.{most_references, outputs_at}
use Rattle.tables_world.specs.Rows.{address_in}
use Rattle.tables_world.specs.Parts.{IsSoundRow}
use Rattle.tables_outline.proofs.Ordered.{mapped_length}
use Rattle.tables_load_objects.specs.Tested.{is_base_if_any, is_address_if_any, fits_address, IsSoundAt}
use Rattle.tables_load_objects.proofs.Truths.{both_so, and_so}
use Rattle.tables_load_objects.proofs.Paths.{each_base, keys_are_paths}

not_true : (b : Bool) → not b ≡ true → b ≡ false
not_true false h = refl
not_true true h = absurd (false≢true h)

not_false : (b : Bool) → b ≡ false → not b ≡ true
not_false b h = ap not h

any_same : (p : Path) (ps : List Path) → list_any (bytes_eq p) ps ≡ list_any (eq_by_cmp bytes_cmp p) ps
any_same p ps = λ i. list_any (λ q. texts_ties p q i) ps

as_many : (s : Set bytes_cmp) → finite.len s ≡ length (finite.keys s)
as_many s = finite.len-entries s ∙ sym (mapped_length (λ (e : Path × Unit {0}). e.0) (finite.entries s))

base_of_some : (o : Option Path) → is_base_if_any o ≡ true → (d : Path) → o ≡ Some d → is_base_name d ≡ true
base_of_some o h d e = subst (λ (x : Option Path). is_base_if_any x ≡ true) e h

some_of_base : (o : Option Path) → ((d : Path) → o ≡ Some d → is_base_name d ≡ true) → is_base_if_any o ≡ true
some_of_base None h = refl
some_of_base (Some d) h = h d refl

address_of_some : (o : Option (List ℕ)) → is_address_if_any o ≡ true → (text : List ℕ) → o ≡ Some text
    → IsSome (address_of text)
address_of_some o h text e = subst (λ (x : Option (List ℕ)). is_address_if_any x ≡ true) e h

some_of_address : (o : Option (List ℕ)) → ((text : List ℕ) → o ≡ Some text → IsSome (address_of text))
    → is_address_if_any o ≡ true
some_of_address None h = refl
some_of_address (Some text) h = h text refl

module _ (dir : List ℕ) (p : Path) (nar : List ℕ) (refs : Set bytes_cmp) where
  abbrev keys : List Path
  keys = finite.keys refs

  fits_other : (o : Option ContentAddress) → fits_address o dir p keys nar ≡ true → (a : ContentAddress) → o ≡ Some a
      → IsFalse (finite.contains_key refs p)
  fits_other o h a e =
      let parts =
      both_so (not (list_any (bytes_eq p) keys)) (verifies a dir p keys nar)
      (subst (λ (x : Option ContentAddress). fits_address x dir p keys nar ≡ true) e h) in
      finite.contains_key-keys refs p ∙ sym (any_same p keys) ∙ not_true (list_any (bytes_eq p) keys) parts.0

  fits_verified : (o : Option ContentAddress) → fits_address o dir p keys nar ≡ true → (a : ContentAddress) → o ≡ Some a
      → IsTrue (verifies a dir p keys nar)
  fits_verified o h a e =
      (both_so (not (list_any (bytes_eq p) keys)) (verifies a dir p keys nar)
      (subst (λ (x : Option ContentAddress). fits_address x dir p keys nar ≡ true) e h)).1

  fits_both : (o : Option ContentAddress) → ((a : ContentAddress) → o ≡ Some a → IsFalse (finite.contains_key refs p))
      → ((a : ContentAddress) → o ≡ Some a → IsTrue (verifies a dir p keys nar)) → fits_address o dir p keys nar ≡ true
  fits_both None other verified = refl
  fits_both (Some a) other verified = and_so (not (list_any (bytes_eq p) keys)) (verifies a dir p keys nar)
      (not_false (list_any (bytes_eq p) keys) (any_same p keys ∙ sym (finite.contains_key-keys refs p) ∙ other a refl))
      (verified a refl)

module _ (dir : List ℕ) (p : Path) (o : Stored) (nar : List ℕ) (refs : Set bytes_cmp)
    (outputs : finite.FinMap bytes_cmp Path) where
  pub row_of_tested : IsSoundAt dir p (record o { nar = nar }) (finite.keys refs) (finite.entries outputs)
      → IsSoundRow dir p o nar refs outputs
  row_of_tested h = record {
    path = h.path;
    hash = h.archive.digest;
    tree = h.archive.recorded.tree;
    archive = h.archive.recorded.archive;
    deriver = base_of_some o.deriver h.deriver;
    address_text = address_of_some o.ca h.address_text;
    names = λ r present. each_base None (finite.keys refs) h.names r (sym (finite.contains_key-keys refs r) ∙ present);
    reference_count = subst (λ n. n ≤ most_references) (sym (as_many refs)) h.count;
    no_self_reference = fits_other dir p nar refs (address_in o.ca) h.archive.address;
    address = fits_verified dir p nar refs (address_in o.ca) h.archive.address;
    derivation = h.archive.recorded.derivation;
    outputs_are = finite.same_entries_map outputs (outputs_at dir p nar) h.archive.outputs_are;
  }

  pub tested_of_row : IsSoundRow dir p o nar refs outputs
      → IsSoundAt dir p (record o { nar = nar }) (finite.keys refs) (finite.entries outputs)
  tested_of_row h = record {
    path = h.path;
    deriver = some_of_base o.deriver h.deriver;
    address_text = some_of_address o.ca h.address_text;
    names = keys_are_paths refs h.names;
    count = subst (λ n. n ≤ most_references) (as_many refs) h.reference_count;
    archive = record {
      digest = h.hash;
      recorded = record { tree = h.tree; archive = h.archive; derivation = h.derivation };
      address = fits_both dir p nar refs (address_in o.ca) h.no_self_reference h.address;
      outputs_are = ap finite.entries h.outputs_are;
    };
  }

  pub tested_is_row : IsSoundAt dir p (record o { nar = nar }) (finite.keys refs) (finite.entries outputs)
      ↔ IsSoundRow dir p o nar refs outputs
  tested_is_row = (row_of_tested, tested_of_row)
