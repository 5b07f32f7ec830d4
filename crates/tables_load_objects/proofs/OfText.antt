-- What the text of a derivation records.
use Rattle.std.proofs.Common.{◌≡◌, ℕ, List, Option, Some, None, Result, Ok, Err, String, Global, BTreeMap, refl, ap}
use Rattle.std.proofs.Common.{subst, ◌∙◌}
use Rattle.std.specs.Prelude.{IfOk, IsOk, MatchOption}
use Rattle.std.specs.declared.alloc.AllocError.{AllocError}
use Rattle.std.proofs.lemmas.Option.{same_Some}
use Rattle.nar.specs.declared.error.NarError.{NarError}
use Rattle.nar.specs.Tree.{Tree, regular, symlink, directory}
use Rattle.drv.specs.Outcome.{outputs_of}
use Rattle.intake.specs.Contents.{contents_of}
use Rattle.model.specs.World.{Path}
use Rattle.model.specs.Objects.{outputs_if_sound, tree_outputs}
use Rattle.intake.specs.Recorded.{outputs_view}
use Rattle.tables_load_objects.specs.Tested.{HoldsDerivation}

module _ (dir : List ℕ) where
  abbrev Reported : List ℕ → Option (BTreeMap (String Global) Path) → Type 0
  Reported text o =
      MatchOption o (¬ IsOk (outputs_of dir text))
      (λ map. IsOk (outputs_of dir text) × (outputs_view map.entries ≡ outputs_if_sound (outputs_of dir text)))

  abbrev Held : Tree → Option (BTreeMap (String Global) Path) → Type 0
  Held t o =
      MatchOption o (¬ HoldsDerivation dir t)
      (λ map. HoldsDerivation dir t × (outputs_view map.entries ≡ tree_outputs {E = NarError} dir (Ok t)))

  -- the contents of a tree are read as its derivation text
  pub of_text : (text : List ℕ) (t : Tree) → Some text ≡ contents_of (Ok t)
      → (r : Result (Option (BTreeMap (String Global) Path)) AllocError) → IfOk r (Reported text) → IfOk r (Held t)
  of_text text (regular e c) is (Err x) h = tt
  of_text text (regular e c) is (Ok None) h = λ d.
      let regular_is = d.is_regular in
      let same : d.contents ≡ text = cc in
      h (subst (λ (l : List ℕ). IsOk (outputs_of dir l)) same d.has_outputs)
  of_text text (regular e c) is (Ok (Some map)) h =
      let same : text ≡ c = same_Some text c is in (
        record {
          executable = e;
          contents = c;
          is_regular = refl;
          has_outputs = subst (λ (l : List ℕ). IsOk (outputs_of dir l)) same h.0;
        },
        h.1 ∙ ap (λ (l : List ℕ). outputs_if_sound (outputs_of dir l)) same,
      )
  of_text text (symlink s) is r h = let no : ⊥ = cc in absurd no
  of_text text (directory es) is r h = let no : ⊥ = cc in absurd no

  -- a tree without contents is no derivation's
  pub of_none : (t : Tree) → None ≡ contents_of (Ok t) → ¬ HoldsDerivation dir t
  of_none (regular e c) is = λ d. let no : ⊥ = cc in absurd no
  of_none (symlink s) is = λ d. let regular_is = d.is_regular in let no : ⊥ = cc in absurd no
  of_none (directory es) is = λ d. let regular_is = d.is_regular in let no : ⊥ = cc in absurd no
