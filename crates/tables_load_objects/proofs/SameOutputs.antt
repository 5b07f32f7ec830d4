-- Outputs in memory, as a list in order and as a map.
use Rattle.std.proofs.Common.{◌≡◌, ℕ, List, [], ◌∷◌, map, true, false, ◌&&◌, refl, sym, ap, ap₂, subst, ◌∙◌}
use Rattle.std.proofs.Common.{String, Global, BTreeMap, Some, None, Option, string_bytes}
use Rattle.std.specs.Prelude.{MatchOption}
use Rattle.nar.specs.Tree.{Tree}
use Rattle.std.specs.Str.{bytes_eq}
use Rattle.std.specs.Cmp.Lexicographic.{nat_list_eq_equiv}
use Rattle.std.specs.List.Sorted.{IsStrictlySortedBy}
use Rattle.std.specs.Map.{keys_of}
use Rattle.std.specs.FinMap as finite
use Rattle.std.proofs.lemmas.Bool.{false≢true}
use Rattle.nar.proofs.Grammar.{same_bytes}
use Rattle.paths.specs.Root.{bytes_cmp}
use Rattle.model.specs.World.{Path}
use Rattle.tables_outline.proofs.Orders.{bytes_total, bytes_antisymmetric}
use Rattle.tables_outline.proofs.Trees.{cmp, listed}
use Rattle.intake.specs.Recorded.{outputs_view}
use Rattle.drv.specs.View.{pairs}
use Rattle.tables_load_objects.specs.Tested.{same_outputs, IfDerivation, outputs_in}
use Rattle.tables_load_objects.proofs.Truths.{both_so, and_so}

abbrev Named : Type 0
Named = List ℕ × Path

abbrev Entries : Type 0
Entries = List (String Global × Path)

abbrev pub AreOrdered : Entries → Type 0
AreOrdered es = IsStrictlySortedBy (cmp bytes_cmp (string_bytes {Z = Global}) (λ (p : Path). p)) (keys_of es)

equal : (xs ys : List Named) → same_outputs xs ys ≡ true → xs ≡ ys
equal [] [] h = refl
equal [] (y ∷ ys) h = absurd (false≢true h)
equal (x ∷ xs) [] h = absurd (false≢true h)
equal (x ∷ xs) (y ∷ ys) h =
    let parts = both_so (bytes_eq x.0 y.0 && bytes_eq x.1 y.1) (same_outputs xs ys) h in
    let fields = both_so (bytes_eq x.0 y.0) (bytes_eq x.1 y.1) parts.0 in
    let head : x ≡ y =
    ap₂ (λ (a b : List ℕ). let e : Named = (a, b) in e) (same_bytes x.0 y.0 fields.0)
    (same_bytes x.1 y.1 fields.1) in
    ap₂ (λ (e : Named) l. e ∷ l) head (equal xs ys parts.1)

itself : (xs : List Named) → same_outputs xs xs ≡ true
itself [] = refl
itself (x ∷ xs) =
    and_so (bytes_eq x.0 x.0 && bytes_eq x.1 x.1) (same_outputs xs xs)
    (and_so (bytes_eq x.0 x.0) (bytes_eq x.1 x.1) (nat_list_eq_equiv.refl x.0) (nat_list_eq_equiv.refl x.1)) (itself xs)

-- what a tree lists
pub view_listed : (es : Entries) → AreOrdered es → finite.entries (outputs_view es) ≡ pairs es
view_listed es up = listed bytes_cmp string_bytes (λ (p : Path). p) bytes_total bytes_antisymmetric es up

module _ (rows : List Named) (es : Entries) (m : finite.FinMap bytes_cmp Path) (up : AreOrdered es)
    (is : outputs_view es ≡ m) where
  -- rows that were compared are what is recorded, and others aren't
  pub rows_are : same_outputs rows (pairs es) ≡ true → rows ≡ finite.entries m
  rows_are h = equal rows (pairs es) h ∙ sym (view_listed es up) ∙ ap finite.entries is

  pub rows_differ : same_outputs rows (pairs es) ≡ false → rows ≡ finite.entries m → ⊥
  rows_differ h e =
      let same : rows ≡ pairs es = e ∙ ap finite.entries (sym is) ∙ view_listed es up in
      false≢true (sym h ∙ ap (λ r. same_outputs r (pairs es)) same ∙ itself (pairs es))

-- ---- what was found

module _ (dir : List ℕ) (p : Path) (tree : Tree) where
  abbrev Found : Option (BTreeMap (String Global) Path) → Type 0
  Found o =
      MatchOption o (¬ IfDerivation dir p tree)
      (λ map. IfDerivation dir p tree × (outputs_view map.entries ≡ outputs_in dir p tree))

  pub found_some : (o : Option (BTreeMap (String Global) Path)) (found : BTreeMap (String Global) Path) → o ≡ Some found
      → Found o → IfDerivation dir p tree × (outputs_view found.entries ≡ outputs_in dir p tree)
  found_some o found e h = subst Found e h

  pub found_none : (o : Option (BTreeMap (String Global) Path)) → o ≡ None → Found o → ¬ IfDerivation dir p tree
  found_none o e h = subst Found e h
