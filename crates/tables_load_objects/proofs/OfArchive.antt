-- What an archive of a derivation records.
use Rattle.std.proofs.Common.{◌≡◌, ℕ, List, map, Bool, true, false, not, Option, Some, None, is_some, Result, Ok, Err}
use Rattle.std.proofs.Common.{IsTrue, refl, sym, ap, subst, ◌∙◌, string_bytes}
use Rattle.std.specs.Prelude.{if◌then◌else◌, ◌↔◌, IfOk, MatchOption}
use Rattle.std.specs.declared.alloc.AllocError.{AllocError}
use Rattle.std.specs.FinMap as finite
use Rattle.std.proofs.lemmas.Bool.{false≢true}
use Rattle.nar.specs.declared.error.NarError.{NarError}
use Rattle.nar.specs.Tree.{IsBytes, Tree, regular}
use Rattle.nar.specs.Archive.{IsArchive}
use Rattle.nar.specs.Outcome.{outcome_of}
use Rattle.nar.proofs.Decided.{outcome_archive}
use Rattle.intake.specs.declared.arrival.Arrived.{Arrived}
use Rattle.intake.specs.Arrival.{fault_of}
use Rattle.intake.specs.Described.{DescribesBytes}
use Rattle.paths.specs.StorePath.{is_derivation}
use Rattle.model.specs.World.{Path}
use Rattle.model.specs.Objects.{tree_outputs, outputs_at}
use Rattle.tables_outline.specs.Outputs.{IsListed}
use Rattle.tables_outline.specs.declared.outputs.Outputs.{Outputs}
use Rattle.tables_load_objects.specs.Tested.{IfDerivation, IsRecorded, outputs_in}

module _ (dir : List ℕ) (p : Path) (nar : List ℕ) (tree : Tree)
    (archive : IsArchive tree nar) (one : (t : Tree) → IsArchive t nar → tree ≡ t)
    (outcome : outcome_of nar ≡ Ok tree) where
  pub recorded_by : IfDerivation dir p tree → IsRecorded dir p nar
  recorded_by h = record {
    tree = tree;
    archive = archive;
    derivation = λ drv.
        let d = h drv in
        record {
          executable = d.executable;
          contents = d.contents;
          is_regular = subst (λ (t : Tree). IsArchive t nar) d.is_regular archive;
          has_outputs = d.has_outputs;
        };
  }

  pub recorded_of : IsRecorded dir p nar → IfDerivation dir p tree
  recorded_of r drv =
      let d = r.derivation drv in
      record {
        executable = d.executable;
        contents = d.contents;
        is_regular = one (regular d.executable d.contents) d.is_regular;
        has_outputs = d.has_outputs;
      }

  -- what the tree gives is what the archive records
  pub outputs_same : outputs_in dir p tree ≡ outputs_at dir p nar
  outputs_same =
      ap (λ (r : Result Tree NarError). if is_derivation p then tree_outputs dir r else finite.empty) (sym outcome)

  -- the same of an answer
  pub reported_by : (r : Result (Option Outputs) AllocError) (rows : List (List ℕ × Path))
      → IfOk r (λ o. MatchOption o (¬ (IfDerivation dir p tree × (rows ≡ finite.entries (outputs_in dir p tree))))
      (λ l. IfDerivation dir p tree × (rows ≡ finite.entries (outputs_in dir p tree))
      × IsListed (map string_bytes l.names.items) l.paths.items (outputs_in dir p tree)))
      → IfOk r (λ o. MatchOption o (¬ (IsRecorded dir p nar × (rows ≡ finite.entries (outputs_at dir p nar))))
      (λ l. IsRecorded dir p nar × (rows ≡ finite.entries (outputs_at dir p nar))
      × IsListed (map string_bytes l.names.items) l.paths.items (outputs_at dir p nar)))
  reported_by (Err e) rows h = tt
  reported_by (Ok None) rows h = λ it. h (recorded_of it.0, it.1 ∙ ap finite.entries (sym outputs_same))
  reported_by (Ok (Some l)) rows h = (
    recorded_by h.0,
    h.1 ∙ ap finite.entries outputs_same,
    subst (IsListed (map string_bytes l.names.items) l.paths.items) outputs_same h.2,
  )

-- ---- the same of an archive that has passed

same_tree : (t u : Tree) → ◌≡◌ {A = Result Tree NarError} (Ok t) (Ok u) → t ≡ u
same_tree t u e = cc

-- bytes without a fault have a tree
tree_found : (r : Result Tree NarError) → fault_of r ≡ None → (t : Tree) × (r ≡ Ok t)
tree_found (Ok t) none = (t, refl)
tree_found (Err e) none = let no : ⊥ = cc in absurd no

no_fault : (o : Option NarError) → is_some o ≡ false → o ≡ None
no_fault None h = refl
no_fault (Some e) h = absurd (false≢true (sym h))

none_so : (b : Bool) → not b ≡ false → b ≡ true
none_so true h = refl
none_so false h = absurd (false≢true (sym h))

-- what is found of the bytes says whether they are an archive
pub archive_found : (nar : List ℕ) (a : Arrived) → a.pieces ≡ nar → DescribesBytes a → (b : Bool)
    → is_some a.fault ≡ not b → IsTrue b ↔ ((t : Tree) × IsArchive t nar)
archive_found nar a view described b is = (
  λ yes.
      let found = tree_found (outcome_of a.pieces) (sym described.fault ∙ no_fault a.fault (is ∙ ap not yes)) in
      (found.0, subst (IsArchive found.0) view ((outcome_archive a.pieces found.0 described.bytes).0 found.1)),
  λ it. none_so b (sym is ∙ ap is_some
      (described.fault ∙ ap fault_of
      ((outcome_archive a.pieces it.0 described.bytes).1 (subst (IsArchive it.0) (sym view) it.1)))),
)

module _ (dir : List ℕ) (p : Path) (nar own : List ℕ) (view : own ≡ nar) (bytes : IsBytes own)
    (archive : (t : Tree) × IsArchive t nar) where
  outcome : outcome_of own ≡ Ok archive.0
  outcome = (outcome_archive own archive.0 bytes).1 (subst (IsArchive archive.0) (sym view) archive.1)

  pub reported_of : (r : Result (Option Outputs) AllocError) (rows : List (List ℕ × Path))
      → ((t : Tree) → outcome_of own ≡ Ok t
      → IfOk r (λ o. MatchOption o (¬ (IfDerivation dir p t × (rows ≡ finite.entries (outputs_in dir p t))))
      (λ l. IfDerivation dir p t × (rows ≡ finite.entries (outputs_in dir p t))
      × IsListed (map string_bytes l.names.items) l.paths.items (outputs_in dir p t))))
      → IfOk r (λ o. MatchOption o (¬ (IsRecorded dir p nar × (rows ≡ finite.entries (outputs_at dir p nar))))
      (λ l. IsRecorded dir p nar × (rows ≡ finite.entries (outputs_at dir p nar))
      × IsListed (map string_bytes l.names.items) l.paths.items (outputs_at dir p nar)))
  reported_of r rows h = reported_by dir p nar archive.0 archive.1
      (λ t is. same_tree archive.0 t
      (sym outcome ∙ (outcome_archive own t bytes).1 (subst (IsArchive t) (sym view) is)))
      (ap outcome_of (sym view) ∙ outcome) r rows (h archive.0 outcome)
