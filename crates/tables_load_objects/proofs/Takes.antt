-- One object, tested by its rows and put among the others.
use Rattle.std.proofs.Common.{◌≡◌, ℕ, ℤ, List, [], ◌∷◌, ◌++◌, refl, length, Bool, Some, None, Option, sym, ap, subst}
use Rattle.std.proofs.Common.{◌∙◌, IsTrue}
use Rattle.std.specs.Prelude.{◌↔◌, MatchOption}
use Rattle.std.specs.FinMap as finite
use Rattle.std.proofs.lemmas.Option.{same_Some}
use Rattle.sha2.specs.Sha256.{sha256}
use Rattle.paths.specs.Root.{bytes_cmp, Set}
use Rattle.tables_sql.specs.Contents.{Contents, Stored}
use Rattle.tables_rows.specs.declared.references.Reference.{Reference}
use Rattle.tables_rows.specs.declared.outputs.Output.{Output}
use Rattle.tables_rows.specs.declared.pieces.Piece.{Piece}
use Rattle.tables_rows.specs.Entries.{stored_of}
use Rattle.model.specs.World.{Path}
use Rattle.model.specs.Objects.{outputs_at}
use Rattle.tables_world.specs.Rows.{address_in, archive_in, references_in, outputs_in, pieces_in, object_in}
use Rattle.tables_schema.specs.declared.schema.Schema.{Schema}
use Rattle.tables_world.specs.Worlds.{rows_of}
use Rattle.tables_world.specs.Parts.{IsSoundRow}
use Rattle.tables_outline.specs.Maps.{put_all}
use Rattle.tables_outline.specs.Outline.{Outlined, outlined}
use Rattle.tables_load_objects.specs.declared.object_rows.ObjectRows.{ObjectRows}
use Rattle.tables_load_objects.specs.Cut.{parts_of, whole_of}
use Rattle.tables_load_objects.specs.Tested.{IsSoundAt, kept_of, named_of, targets_of}
use Rattle.tables_load_objects.specs.Rows.{AreRowsOf}
use Rattle.tables_load_objects.specs.Loaded.{Objects, IsCutBy, IsSoundOne, filled, with_stored, with_object}
use Rattle.tables_load_objects.proofs.Paths.{set_again}
use Rattle.tables_load_objects.proofs.SoundRows.{row_of_tested, tested_of_row}

-- no object is there
pub no_object : (schema : Schema) (dir : List ℕ) (c : Contents) (p : Path) → finite.get c.objects p ≡ None
    → IsSoundOne schema dir c p → ⊥
no_object schema dir c p none s = let e = sym none ∙ s.found in cc

module _ (schema : Schema) (dir : List ℕ) (c : Contents) (p : Path) (r : ObjectRows) (h : AreRowsOf c p r)
    (refs : List Reference) (outs : List Output)
    (refs_are : targets_of refs ≡ finite.keys (references_in (rows_of c) p))
    (outs_are : named_of outs ≡ finite.entries (outputs_in (rows_of c) p)) where
  abbrev stored : Stored
  stored = (stored_of r.object).1

  -- the same with the whole archive
  abbrev whole : Stored
  whole = whole_of stored (parts_of r.pieces.items)

  abbrev Tested : Type 0
  Tested = IsSoundAt dir (stored_of r.object).0 whole (targets_of refs) (named_of outs)

  abbrev pub IsTested : Type 0
  IsTested = IsCutBy schema stored.nar (parts_of r.pieces.items) × Tested

  abbrev Same : Type 0
  Same =
      IsSoundAt dir p (record stored { nar = archive_in (rows_of c) p stored })
      (finite.keys (references_in (rows_of c) p)) (finite.entries (outputs_in (rows_of c) p))

  whole_is : whole ≡ record stored { nar = archive_in (rows_of c) p stored }
  whole_is = ap (whole_of stored) h.pieces

  to_same : Tested → Same
  to_same t =
      subst (λ (o : Stored). IsSoundAt dir p o (finite.keys (references_in (rows_of c) p))
      (finite.entries (outputs_in (rows_of c) p))) whole_is
      (subst (λ (q : Path). IsSoundAt dir q whole (finite.keys (references_in (rows_of c) p))
      (finite.entries (outputs_in (rows_of c) p))) h.base
      (subst (λ (l : List Path). IsSoundAt dir (stored_of r.object).0 whole l
      (finite.entries (outputs_in (rows_of c) p))) refs_are
      (subst (λ (l : List (List ℕ × Path)). IsSoundAt dir (stored_of r.object).0 whole (targets_of refs) l) outs_are
      t)))

  of_same : Same → Tested
  of_same t =
      subst (λ (l : List (List ℕ × Path)). IsSoundAt dir (stored_of r.object).0 whole (targets_of refs) l)
      (sym outs_are)
      (subst (λ (l : List Path). IsSoundAt dir (stored_of r.object).0 whole l
      (finite.entries (outputs_in (rows_of c) p))) (sym refs_are)
      (subst (λ (q : Path). IsSoundAt dir q whole (finite.keys (references_in (rows_of c) p))
      (finite.entries (outputs_in (rows_of c) p))) (sym h.base)
      (subst (λ (o : Stored). IsSoundAt dir p o (finite.keys (references_in (rows_of c) p))
      (finite.entries (outputs_in (rows_of c) p))) (sym whole_is) t)))

  abbrev CutHere : List (ℤ × List ℕ) → Type 0
  CutHere = IsCutBy schema stored.nar

  pub one_of : IsTested → IsSoundOne schema dir c p
  one_of t = record {
    stored = stored;
    found = h.object;
    cut = subst CutHere h.pieces t.0;
    row =
        row_of_tested dir p stored (archive_in (rows_of c) p stored) (references_in (rows_of c) p)
        (outputs_in (rows_of c) p) (to_same t.1);
  }

  same_stored : (o : Stored) → finite.get c.objects p ≡ Some o → o ≡ stored
  same_stored o e = same_Some o stored (sym e ∙ h.object)

  pub of_one : IsSoundOne schema dir c p → IsTested
  of_one s = (
    subst CutHere (sym h.pieces) (subst
        (λ (o : Stored). IsCutBy schema o.nar (finite.entries (pieces_in (rows_of c) p)))
        (same_stored s.stored s.found) s.cut),
    of_same (tested_of_row dir p stored (archive_in (rows_of c) p stored) (references_in (rows_of c) p)
        (outputs_in (rows_of c) p)
        (subst (λ (o : Stored). IsSoundRow dir p o (archive_in (rows_of c) p o) (references_in (rows_of c) p)
        (outputs_in (rows_of c) p)) (same_stored s.stored s.found) s.row)),
  )

  pub reported_one : (b : Bool) → IsTrue b ↔ IsTested → IsTrue b ↔ IsSoundOne schema dir c p
  reported_one b t = (λ x. one_of (t.0 x), λ s. t.1 (of_one s))

  -- what is kept is the outline of the object
  abbrev kept : Set bytes_cmp → finite.FinMap bytes_cmp Path → Outlined
  kept found outputs =
      record {
        size = length (archive_in (rows_of c) p stored);
        hash = sha256 (archive_in (rows_of c) p stored);
        references = found;
        deriver = stored.deriver;
        ca = address_in stored.ca;
        outputs = outputs;
      }

  pub kept_is : Tested → kept_of dir (stored_of r.object).0 whole (targets_of refs)
      ≡ outlined (object_in (rows_of c) p stored)
  kept_is t =
      let s = to_same t in
      ap (λ (q : Path). kept_of dir q whole (targets_of refs)) h.base
      ∙ ap (λ (l : List Path). kept_of dir p whole l) refs_are
      ∙ ap (λ (o : Stored). kept_of dir p o (finite.keys (references_in (rows_of c) p))) whole_is
      ∙ (λ i. kept (set_again (references_in (rows_of c) p) i)
      (sym (finite.same_entries_map (outputs_in (rows_of c) p)
      (outputs_at dir p (archive_in (rows_of c) p stored)) s.archive.outputs_are) i))

  pub put_is : (m : Objects) → IsTested
      → finite.insert m (stored_of r.object).0 (kept_of dir (stored_of r.object).0 whole (targets_of refs))
      ≡ with_object c p m
  put_is m t =
      ap (λ (q : Path). finite.insert m q (kept_of dir (stored_of r.object).0 whole (targets_of refs))) h.base
      ∙ ap (finite.insert m p) (kept_is t.1) ∙ ap (λ (o : Option Stored). with_stored c p o m) (sym h.object)

-- ---- what was tested, of the same rows

pub cut_so : (schema : Schema) (row same : List ℕ) (ps qs : List Piece) → row ≡ same → ps ≡ qs
    → IsCutBy schema row (parts_of ps) → IsCutBy schema same (parts_of qs)
cut_so schema row same ps qs p q h =
    subst (λ (l : List Piece). IsCutBy schema same (parts_of l)) q
    (subst (λ (l : List ℕ). IsCutBy schema l (parts_of ps)) p h)

pub sound_found : (dir : List ℕ) (w : Path × Stored) (refs : List Path) (outs : List (List ℕ × Path))
    (o : Option (Path × Outlined)) (s : Path × Outlined) → o ≡ Some s
    → MatchOption o (¬ IsSoundAt dir w.0 w.1 refs outs)
    (λ (x : Path × Outlined). IsSoundAt dir w.0 w.1 refs outs × (x.0 ≡ w.0) × (x.1 ≡ kept_of dir w.0 w.1 refs))
    → IsSoundAt dir w.0 w.1 refs outs
sound_found dir w refs outs o s is h =
    (subst (λ (p : Option (Path × Outlined)). MatchOption p (¬ IsSoundAt dir w.0 w.1 refs outs)
    (λ (x : Path × Outlined). IsSoundAt dir w.0 w.1 refs outs × (x.0 ≡ w.0) × (x.1 ≡ kept_of dir w.0 w.1 refs)))
    is h).0

-- and what was kept then
pub kept_found : (dir : List ℕ) (w : Path × Stored) (refs : List Path) (outs : List (List ℕ × Path))
    (o : Option (Path × Outlined)) (s : Path × Outlined) → o ≡ Some s
    → MatchOption o (¬ IsSoundAt dir w.0 w.1 refs outs)
    (λ (x : Path × Outlined). IsSoundAt dir w.0 w.1 refs outs × (x.0 ≡ w.0) × (x.1 ≡ kept_of dir w.0 w.1 refs))
    → (s.0 ≡ w.0) × (s.1 ≡ kept_of dir w.0 w.1 refs)
kept_found dir w refs outs o s is h =
    let it =
    subst (λ (p : Option (Path × Outlined)). MatchOption p (¬ IsSoundAt dir w.0 w.1 refs outs)
    (λ (x : Path × Outlined). IsSoundAt dir w.0 w.1 refs outs × (x.0 ≡ w.0) × (x.1 ≡ kept_of dir w.0 w.1 refs)))
    is h in
    (it.1, it.2)

-- ---- one more in a list of objects

put_last : (es : List (Path × Outlined)) (e : Path × Outlined) (m : Objects)
    → put_all (es ++ e ∷ []) m ≡ finite.insert (put_all es m) e.0 e.1
put_last [] e m = refl
put_last (d ∷ es) e m = put_last es e (finite.insert m d.0 d.1)

pub pushed : (es : List (Path × Outlined)) (e : Path × Outlined) (p : Path) (x : Outlined) → e.0 ≡ p → e.1 ≡ x
    → filled (es ++ e ∷ []) ≡ finite.insert (filled es) p x
pushed es e p x key value = put_last es e finite.empty ∙ (λ i. finite.insert (filled es) (key i) (value i))
