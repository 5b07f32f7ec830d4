-- Outputs with a fault aren't sound.
use Rattle.std.proofs.Common.{◌≡◌, ◌↔◌, ℕ, List, ◌++◌, Bool, Some, Ok, Err, Result, refl, sym, ap, subst, ◌∙◌, IsTrue}
use Rattle.std.proofs.Common.{IsFalse}
use Rattle.std.specs.Prelude.{codes, IsOk, Contains}
use Rattle.std.specs.FinMap as finite
use Rattle.std.proofs.lemmas.Bool.{false≢true, false_from_ne_true}
use Rattle.std.proofs.lemmas.Bool.Decides.{Decides-eqb}
use Rattle.std.proofs.lemmas.Slice.Eq.{ends_is}
use Rattle.nar.specs.Tree.{regular}
use Rattle.nar.specs.Archive.{IsArchive}
use Rattle.paths.specs.Root.{bytes_cmp}
use Rattle.paths.specs.StorePath.{is_derivation}
use Rattle.drv.specs.declared.error.DrvError.{DrvError}
use Rattle.drv.specs.Derivation.{Records}
use Rattle.drv.specs.Outcome.{outputs_of}
use Rattle.drv.proofs.Outcomes.{one_outcome}
use Rattle.tables_sql.specs.Contents.{Contents}
use Rattle.model.specs.World.{Path}
use Rattle.model.specs.Objects.{outputs_at}
use Rattle.tables_world.specs.Rows.{archive_in}
use Rattle.tables_schema.specs.declared.schema.Schema.{Schema}
use Rattle.tables_world.specs.Worlds.{rows_of, IsSoundBy}
use Rattle.laws.specs.FaultyRows.{ExcludesFaultyOutputs, FaultyDerivationsAreUnsound}
use Rattle.tables_world.proofs.Recorded.{outputs_are_recorded}
use Rattle.tables_world.proofs.SoundParts.{some_key}
use Rattle.tables_world.proofs.Reported.{get-output}
use Rattle.laws.proofs.FaultyRows.{no_key, parts_of, row_sound, read_as}

ends : (p stem : List ℕ) → p ≡ stem ++ codes ".drv" → IsTrue (is_derivation p)
ends p stem is = (ends_is Decides-eqb p (codes ".drv") (is_derivation p) refl).1 stem is

pub outputs_exclude : (c : Contents) (p : Path) → ExcludesFaultyOutputs c p
outputs_exclude c p = record {
  of_no_object =
      λ name present none dir schema sound. no_key none ((parts_of schema dir c sound).objects.outputs p name present);
  of_no_derivation = λ name present none dir schema sound.
      let o = some_key (finite.get c.objects p) ((parts_of schema dir c sound).objects.outputs p name present) in
      let other : IsFalse (is_derivation p) =
      false_from_ne_true (is_derivation p)
      (λ t. none _ ((ends_is Decides-eqb p (codes ".drv") (is_derivation p) refl).0 t)) in
      let nar = archive_in (rows_of c) p o.0 in
      let are = (row_sound c p o.0 o.1 schema dir sound).outputs_are ∙ (outputs_are_recorded dir p nar).none other in
      no_key (sym (get-output c p name) ∙ ap (λ (m : finite.FinMap bytes_cmp Path). finite.get m name) are
      ∙ finite.get-empty bytes_cmp name) present;
}

read_outputs : (dir contents : List ℕ) (r : Result (List (List ℕ × Path)) DrvError) → outputs_of dir contents ≡ r
    → IsOk r → (found : List (List ℕ × Path)) × Records dir contents found
read_outputs dir contents (Ok found) e ok = (found, (one_outcome dir contents (Ok found)).1 e)
read_outputs dir contents (Err f) e ok = absurd (false≢true ok)

pub faulty_derivations : FaultyDerivationsAreUnsound
faulty_derivations dir c p o stem nar row is h =
    let drv = ends p stem is in
    let recorded : (schema : Schema) → IsSoundBy schema dir c
    → (executable : Bool) (text : List ℕ) (outputs : List (List ℕ × Path)) → IsArchive (regular executable text) nar
    → Records dir text outputs
    → (name : List ℕ) (base : Path) → (finite.get c.outs (p, name) ≡ Some base) ↔ Contains outputs (name, base)
    = λ schema sound executable text outputs file reads name base.
    let s = row_sound c p o row schema dir sound in
    let of = (outputs_are_recorded dir p nar).of drv executable text outputs file reads name base in
    let same : finite.get c.outs (p, name) ≡ finite.get (outputs_at dir p nar) name
    =
    sym (get-output c p name) ∙ ap (λ (m : finite.FinMap bytes_cmp Path). finite.get m name)
    (s.outputs_are ∙ ap (outputs_at dir p) (read_as c p o row schema dir sound nar h)) in
    ((λ e. of.0 (sym same ∙ e)), (λ x. same ∙ of.1 x)) in
    record {
      no_derivation = λ none schema sound.
          let d = (row_sound c p o row schema dir sound).derivation drv in
          let found = read_outputs dir d.contents (outputs_of dir d.contents) refl d.has_outputs in
          none d.executable d.contents found.0
          (subst (IsArchive (regular d.executable d.contents)) (read_as c p o row schema dir sound nar h)
          d.is_regular) found.1;
      other =
          λ executable text outputs file reads name base e none schema sound. none
          ((recorded schema sound executable text outputs file reads name base).0 e);
      missing =
          λ executable text outputs file reads name base present other schema sound. other
          ((recorded schema sound executable text outputs file reads name base).1 present);
    }
