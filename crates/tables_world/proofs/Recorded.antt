-- Which outputs an object records.
use Rattle.std.proofs.Common.{◌≡◌, ℕ, zero, suc, ◌<◌, List, [], ◌∷◌, length, get_or, Bool, true, false, cond, Some}
use Rattle.std.proofs.Common.{None, Option, refl, sym, ap, arith, ◌∙◌, IsTrue, subst, inl, inr, ◌⊎◌}
use Rattle.std.specs.Prelude.{is_some, Contains, Ok, if◌then◌else◌}
use Rattle.std.specs.Ordering.{eq_by_cmp, is_eq}
use Rattle.std.specs.Cmp.{Equal-is, tied_itself}
use Rattle.std.specs.Cmp.Lexicographic.{nat_list_cmp_total}
use Rattle.std.specs.FinMap as finite
use Rattle.std.specs.FinMap.Entries.{find as find_entry}
use Rattle.std.proofs.lemmas.Bool.{false≢true, false_from_ne_true}
use Rattle.std.proofs.lemmas.Option.{same_Some}
use Rattle.nar.specs.Tree.{Tree, regular, IsBytes}
use Rattle.nar.specs.Archive.{archive, IsArchive}
use Rattle.nar.specs.Outcome.{outcome_of}
use Rattle.nar.proofs.Bytes.{archive_bytes}
use Rattle.nar.proofs.Files.{spelling_bytes}
use Rattle.nar.proofs.Decided.{outcome_archive}
use Rattle.paths.specs.Root.{bytes_cmp}
use Rattle.paths.specs.StorePath.{is_derivation}
use Rattle.drv.specs.Derivation.{HaveOwnNames, recorded, Records}
use Rattle.drv.proofs.Outcomes.{one_outcome}
use Rattle.model.specs.World.{Path}
use Rattle.model.specs.Objects.{outputs_if_sound, tree_outputs, outputs_at}
use Rattle.tables_world.specs.Laws.{OutputsAreRecorded}
use Rattle.tables_world.proofs.Columns.{bytes_antisymmetric}

-- bytes that are the archive of a tree are read as that tree
pub archive_is_read : (t : Tree) (b : List ℕ) → IsArchive t b → outcome_of b ≡ Ok t
archive_is_read t b a =
    (outcome_archive b t (subst IsBytes (sym a.spells) (spelling_bytes (archive t) (archive_bytes t a.legal)))).1 a

-- ---- members

module _ {X : Type 0} where
  pub at_head : (x : X) (xs : List X) → Contains (x ∷ xs) x
  at_head x xs = (0, omega arith, refl)

  pub behind : (x y : X) (xs : List X) → Contains xs y → Contains (x ∷ xs) y
  behind x y xs h = let lt = h.1 in (suc h.0, omega arith, h.2)

  pub cases : (x y : X) (xs : List X) → Contains (x ∷ xs) y → (x ≡ y) ⊎ Contains xs y
  cases x y xs h = by h.0 h.1 h.2
    where
      by : (k : ℕ) → k < length (x ∷ xs) → get_or (x ∷ xs) k y ≡ y → (x ≡ y) ⊎ Contains xs y
      by zero lt e = inl e
      by (suc k) lt e = inr (k, omega arith, e)

  pub no_member : (y : X) → Contains [] y → ⊥
  no_member y h = let lt = h.1 in omega arith

-- ---- what is found by a name

same_name : (a b : List ℕ) → IsTrue (eq_by_cmp bytes_cmp a b) → a ≡ b
same_name a b h = bytes_antisymmetric a b ((Equal-is (bytes_cmp a b)).0 h)

found_listed : (es : List (List ℕ × Path)) (name : List ℕ) (base : Path) → find_entry bytes_cmp name es ≡ Some base
    → Contains es (name, base)
found_listed [] name base e = absurd (false≢true (ap is_some e))
found_listed (x ∷ xs) name base e = by (eq_by_cmp bytes_cmp name x.0) refl e (found_listed xs name base)
  where
    by : (b : Bool) → eq_by_cmp bytes_cmp name x.0 ≡ b → cond b (Some x.1) (find_entry bytes_cmp name xs) ≡ Some base
        → (find_entry bytes_cmp name xs ≡ Some base → Contains xs (name, base)) → Contains (x ∷ xs) (name, base)
    by true t h later =
        let key = same_name name x.0 t in
        let value = same_Some x.1 base h in
        subst (λ (d : List ℕ × Path). Contains (x ∷ xs) d) (λ i. (sym key i, value i)) (at_head x xs)
    by false t h later = behind x (name, base) xs (later h)

from_recorded : (outputs : List (List ℕ × Option (List ℕ))) (name base : List ℕ)
    → Contains (recorded outputs) (name, base) → Contains outputs (name, Some base)
unfolding recorded
from_recorded [] name base c = absurd (no_member (name, base) c)
from_recorded ((n, None) ∷ rest) name base c = behind (n, None) (name, Some base) rest (from_recorded rest name base c)
from_recorded ((n, Some b) ∷ rest) name base c =
    elim (cases (n, b) (name, base) (recorded rest) c) as (λ _. Contains ((n, Some b) ∷ rest) (name, Some base)) [
      | inl is ↦ subst (λ (d : List ℕ × List ℕ). Contains ((n, Some b) ∷ rest) (d.0, Some d.1)) is
          (at_head (n, Some b) rest)
      | inr later ↦ behind (n, Some b) (name, Some base) rest (from_recorded rest name base later)
    ]

-- later outputs have other names than the first
others : (x y : List ℕ × Option (List ℕ)) (rest : List (List ℕ × Option (List ℕ))) → HaveOwnNames (x ∷ rest)
    → Contains rest y → x.0 ≡ y.0 → ⊥
others x y rest own c e = let lt =
    c.1 in own 0 (suc c.0) y (omega arith) (omega arith) (e ∙ ap (λ (d : List ℕ × Option (List ℕ)). d.0) (sym c.2))

rest_own : (x : List ℕ × Option (List ℕ)) (rest : List (List ℕ × Option (List ℕ))) → HaveOwnNames (x ∷ rest)
    → HaveOwnNames rest
rest_own x rest own i j d lt in_list = own (suc i) (suc j) d (omega arith) (omega arith)

listed_found : (outputs : List (List ℕ × Option (List ℕ))) → HaveOwnNames outputs → (name base : List ℕ)
    → Contains (recorded outputs) (name, base) → find_entry bytes_cmp name (recorded outputs) ≡ Some base
unfolding recorded
listed_found [] own name base c = absurd (no_member (name, base) c)
listed_found ((n, None) ∷ rest) own name base c = listed_found rest (rest_own (n, None) rest own) name base c
listed_found ((n, Some b) ∷ rest) own name base c =
    elim (cases (n, b) (name, base) (recorded rest) c) as (λ _. cond (eq_by_cmp bytes_cmp name n) (Some b)
    (find_entry bytes_cmp name (recorded rest)) ≡ Some base) [
      | inl is ↦
          ap (λ t. cond t (Some b) (find_entry bytes_cmp name (recorded rest)))
          (ap (λ (d : List ℕ × List ℕ). eq_by_cmp bytes_cmp name d.0) is
          ∙ ap is_eq (tied_itself nat_list_cmp_total name))
          ∙ ap (λ (d : List ℕ × List ℕ). Some d.1) is
      | inr later ↦
          ap (λ t. cond t (Some b) (find_entry bytes_cmp name (recorded rest)))
          (false_from_ne_true (eq_by_cmp bytes_cmp name n)
          (λ t. others (n, Some b) (name, Some base) rest own (from_recorded rest name base later)
          (sym (same_name name n t))))
          ∙ listed_found rest (rest_own (n, Some b) rest own) name base later
    ]

-- ---- what is recorded

module _ (dir : List ℕ) (p : Path) (nar : List ℕ) where
  recorded_as : (executable : Bool) (contents : List ℕ) (found : List (List ℕ × Path)) → IsTrue (is_derivation p)
      → IsArchive (regular executable contents) nar → Records dir contents found
      → outputs_at dir p nar ≡ finite.from_entries found
  recorded_as executable contents found drv is tells =
      ap (λ b. if b then tree_outputs dir (outcome_of nar) else finite.empty) drv
      ∙ ap (tree_outputs dir) (archive_is_read (regular executable contents) nar is)
      ∙ ap outputs_if_sound ((one_outcome dir contents (Ok found)).0 tells)

pub outputs_are_recorded : OutputsAreRecorded
outputs_are_recorded dir p nar = record {
  none = λ h. ap (λ b. if b then tree_outputs dir (outcome_of nar) else finite.empty) h;
  of = λ drv executable contents found is tells name base.
      let got : finite.get (outputs_at dir p nar) name ≡ find_entry bytes_cmp name found
      =
      ap (λ (m : finite.FinMap bytes_cmp Path). finite.get m name)
      (recorded_as dir p nar executable contents found drv is tells)
      ∙ finite.get-from_entries nat_list_cmp_total found name in (
        (λ e. found_listed found name base (sym got ∙ e)),
        (λ c. got ∙ ap (find_entry bytes_cmp name) tells.are
            ∙ listed_found tells.outputs tells.own name base
            (subst (λ (xs : List (List ℕ × List ℕ)). Contains xs (name, base)) tells.are c)),
      );
}
