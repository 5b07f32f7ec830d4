-- All objects and what is tested with them: what the tests say, and what makes them pass.
use Rattle.std.proofs.Common.{◌≡◌, ℕ, ℤ, List, [], ◌∷◌, map, Bool, true, false, ◌&&◌, ◌||◌, Some, None, Option, is_some}
use Rattle.std.proofs.Common.{refl, sym, ap, subst, ◌∙◌, IsTrue}
use Rattle.std.specs.List.{list_any, list_all, AllByRecursion}
use Rattle.std.specs.Ordering.{eq_by_cmp}
use Rattle.std.specs.FinMap as finite
use Rattle.std.proofs.lemmas.Bool.{false≢true}
use Rattle.std.proofs.lemmas.Option.{same_Some}
use Rattle.paths.specs.StorePath.{is_base_name}
use Rattle.paths.specs.Root.{bytes_cmp}
use Rattle.tables_sql.specs.Contents.{Contents, Numbered, Stored}
use Rattle.tables_sql.proofs.Orders.{numbered_total, numbered_antisymmetric}
use Rattle.model.specs.World.{Path}
use Rattle.tables_world.specs.Pieces.{IsCut}
use Rattle.tables_world.specs.Rows.{archive_in, references_in, outputs_in, pieces_in}
use Rattle.tables_schema.specs.declared.schema.Schema.{Schema}
use Rattle.tables_schema.specs.Schemas.{has_pieces}
use Rattle.tables_world.specs.Worlds.{rows_of, world_in}
use Rattle.tables_world.specs.Parts.{IsSoundRow}
use Rattle.tables_outline.specs.Outline.{outline_of}
use Rattle.tables_outline.proofs.Orders.{bytes_total, bytes_antisymmetric, pair_total, pair_antisymmetric}
use Rattle.tables_outline.proofs.Puts.{tied_is}
use Rattle.tables_load_objects.specs.Loaded.{Objects, IsCutBy, IsSoundOne, is_object, is_reference, is_output, is_owned}
use Rattle.tables_load_objects.specs.Loaded.{AreSoundInPieces}
use Rattle.tables_load_objects.proofs.Truths.{both_so, and_so}
use Rattle.tables_load_objects.proofs.EachEntry.{each_entry, tested_entries}
use Rattle.tables_load_objects.proofs.AllObjects.{has_here}

module _ (c : Contents) where
  module _ (schema : Schema) (dir : List ℕ) where
    abbrev Row : Path → Stored → Type 0
    Row p o = IsSoundRow dir p o (archive_in (rows_of c) p o) (references_in (rows_of c) p) (outputs_in (rows_of c) p)

    abbrev pub AreSoundRows : Type 0
    AreSoundRows = (p : Path) (o : Stored) → finite.get c.objects p ≡ Some o → Row p o

    abbrev pub AreCut : Type 0
    AreCut =
        IsTrue (has_pieces schema) → (p : Path) (o : Stored) → finite.get c.objects p ≡ Some o
        → IsCut o.nar (finite.entries (pieces_in (rows_of c) p))

    one_row : (p : Path) → IsSoundOne schema dir c p → (o : Stored) → finite.get c.objects p ≡ Some o → Row p o
    one_row p s o e = subst (Row p) (same_Some s.stored o (sym s.found ∙ e)) s.row

    one_cut : (p : Path) → IsSoundOne schema dir c p → (o : Stored) → finite.get c.objects p ≡ Some o
        → IsCutBy schema o.nar (finite.entries (pieces_in (rows_of c) p))
    one_cut p s o e =
        subst (λ (x : Stored). IsCutBy schema x.nar (finite.entries (pieces_in (rows_of c) p)))
        (same_Some s.stored o (sym s.found ∙ e)) s.cut

    among : (ps : List Path) → AllByRecursion (IsSoundOne schema dir c) ps → (p : Path)
        → list_any (eq_by_cmp bytes_cmp p) ps ≡ true → IsSoundOne schema dir c p
    among [] h p present = absurd (false≢true present)
    among (q ∷ ps) h p present = by (eq_by_cmp bytes_cmp p q) refl present (among ps h.1 p)
      where
        by : (b : Bool) → eq_by_cmp bytes_cmp p q ≡ b → (b || list_any (eq_by_cmp bytes_cmp p) ps) ≡ true
            → (list_any (eq_by_cmp bytes_cmp p) ps ≡ true → IsSoundOne schema dir c p) → IsSoundOne schema dir c p
        by true t k later = subst (IsSoundOne schema dir c) (sym (tied_is bytes_antisymmetric p q t)) h.0
        by false t k later = later k

    one_at : AllByRecursion (IsSoundOne schema dir c) (finite.keys c.objects) → (p : Path) (o : Stored)
        → finite.get c.objects p ≡ Some o → IsSoundOne schema dir c p
    one_at h p o e = among (finite.keys c.objects) h p (sym (finite.contains_key-keys c.objects p) ∙ ap is_some e)

    pub rows_of_all : AllByRecursion (IsSoundOne schema dir c) (finite.keys c.objects) → AreSoundRows
    rows_of_all h p o e = one_row p (one_at h p o e) o e

    pub cut_of_all : AllByRecursion (IsSoundOne schema dir c) (finite.keys c.objects) → AreCut
    cut_of_all h has p o e = one_cut p (one_at h p o e) o e has

    each_of : (es : List (Path × Stored)) → AllByRecursion (λ (e : Path × Stored). IsSoundOne schema dir c e.0) es
        → AllByRecursion (IsSoundOne schema dir c) (map (λ (e : Path × Stored). e.0) es)
    each_of [] h = tt
    each_of (e ∷ es) h = (h.0, each_of es h.1)

    pub all_of_rows : AreSoundRows → AreCut → AllByRecursion (IsSoundOne schema dir c) (finite.keys c.objects)
    all_of_rows h cut = each_of (finite.entries c.objects)
        (each_entry bytes_total bytes_antisymmetric (λ (e : Path × Stored). IsSoundOne schema dir c e.0) c.objects
        (λ p o e. record { stored = o; found = e; cut = λ has. cut has p o e; row = h p o e }))

    -- ---- once each row is sound

    module _ (sound : AreSoundRows) (cut : AreCut) (m : Objects) (is : m ≡ (outline_of (world_in c)).objects) where
      object_is : (p : Path) → is_object m p ≡ finite.contains_key c.objects p
      object_is p =
          ap (λ b. is_base_name p && b) (ap (λ (n : Objects). finite.contains_key n p) is ∙ has_here c p)
          ∙ by (finite.get c.objects p) refl
        where
          by : (g : Option Stored) → finite.get c.objects p ≡ g → (is_base_name p && is_some g) ≡ is_some g
          by None e = no (is_base_name p)
            where
              no : (b : Bool) → (b && false) ≡ false
              no true = refl
              no false = refl
          by (Some o) e = and_so (is_base_name p) true (sound p o e).path refl

      -- each is under a base name
      pub named_here : (p : Path) → finite.contains_key m p ≡ true → is_base_name p ≡ true
      named_here p present =
          by (finite.get c.objects p) refl
          (sym (ap (λ (n : Objects). finite.contains_key n p) is ∙ has_here c p) ∙ present)
        where
          by : (g : Option Stored) → finite.get c.objects p ≡ g → is_some g ≡ true → is_base_name p ≡ true
          by None e h = absurd (false≢true h)
          by (Some o) e h = (sound p o e).path

      abbrev tested_refs : Bool
      tested_refs = list_all (is_reference m) (finite.entries c.refs)

      abbrev tested_outs : Bool
      tested_outs = list_all (is_output m) (finite.entries c.outs)

      abbrev tested_pieces : Bool
      tested_pieces = list_all (is_owned m) (finite.keys c.pieces)

      by_key : {K X : Type 0} (test : K → Bool) (es : List (K × X))
          → list_all test (map (λ (e : K × X). e.0) es) ≡ list_all (λ (e : K × X). test e.0) es
      by_key test [] = refl
      by_key test (e ∷ es) = ap (λ b. test e.0 && b) (by_key test es)

      key_of : {X : Type 0} (g : Option X) → is_some g ≡ true → (x : X) × (g ≡ Some x)
      key_of None h = absurd (false≢true h)
      key_of (Some x) h = (x, refl)

      pieces_tested : tested_pieces ≡ true → (p : Path) (n : ℤ) → IsTrue (finite.contains_key c.pieces (p, n))
          → IsTrue (finite.contains_key c.objects p)
      pieces_tested h p n present =
          let e = key_of (finite.get c.pieces (p, n)) present in
          let all = sym (by_key (is_owned m) (finite.entries c.pieces)) ∙ h in
          sym (object_is p) ∙ (tested_entries numbered_total numbered_antisymmetric c.pieces
          (λ (d : Numbered × List ℕ). is_owned m d.0)).0 all (p, n) e.0 e.1

      pub to_objects : ((tested_refs && tested_outs) && tested_pieces) ≡ true → AreSoundInPieces schema dir (rows_of c)
      to_objects h =
          let first = both_so (tested_refs && tested_outs) tested_pieces h in
          let both = both_so tested_refs tested_outs first.0 in
          record {
            objects = record {
              objects = sound;
              references = λ p r present.
                  let e = key_of (finite.get c.refs (p, r)) present in
                  let t =
                  (tested_entries pair_total pair_antisymmetric c.refs (is_reference m)).0 both.0 (p, r) e.0 e.1 in
                  let parts = both_so (is_object m p) (is_object m r) t in
                  (sym (object_is p) ∙ parts.0, sym (object_is r) ∙ parts.1);
              outputs = λ p name present.
                  let e = key_of (finite.get c.outs (p, name)) present in
                  sym (object_is p) ∙ (tested_entries pair_total pair_antisymmetric c.outs (is_output m)).0 both.1
                  (p, name) e.0 e.1;
            };
            cut = cut;
            pieces = pieces_tested first.1;
          }

      pub of_objects : AreSoundInPieces schema dir (rows_of c) → ((tested_refs && tested_outs) && tested_pieces) ≡ true
      of_objects h = and_so (tested_refs && tested_outs) tested_pieces
          (and_so tested_refs tested_outs
          ((tested_entries pair_total pair_antisymmetric c.refs (is_reference m)).1 (λ k x e.
          let t = h.objects.references k.0 k.1 (ap is_some e) in
          and_so (is_object m k.0) (is_object m k.1) (object_is k.0 ∙ t.0) (object_is k.1 ∙ t.1)))
          ((tested_entries pair_total pair_antisymmetric c.outs (is_output m)).1
          (λ k x e. object_is k.0 ∙ h.objects.outputs k.0 k.1 (ap is_some e))))
          (by_key (is_owned m) (finite.entries c.pieces)
          ∙ (tested_entries numbered_total numbered_antisymmetric c.pieces
          (λ (d : Numbered × List ℕ). is_owned m d.0)).1
          (λ k x e. object_is k.0 ∙ h.pieces k.0 k.1 (ap is_some e)))
