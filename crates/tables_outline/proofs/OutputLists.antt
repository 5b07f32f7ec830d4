-- Outputs taken apart: their names, and their paths.
use Rattle.std.proofs.Common.{◌≡◌, ℕ, suc, List, [], ◌∷◌, ◌++◌, map, length, Bool, true, false, refl, sym, ap, subst}
use Rattle.std.proofs.Common.{◌∙◌, append-nil, T, IsTrue, String, Global, string_bytes}
use Rattle.std.specs.List.{zip}
use Rattle.std.specs.List.Sorted.{IsStrictlySortedBy}
use Rattle.std.specs.Map.{keys_of}
use Rattle.std.specs.FinMap as finite
use Rattle.std.specs.FinMap.Entries.{is_sorted}
use Rattle.paths.specs.Root.{bytes_cmp}
use Rattle.drv.specs.View.{pairs}
use Rattle.model.specs.World.{Path}
use Rattle.tables_outline.specs.Outline.{rise}
use Rattle.tables_outline.specs.Outputs.{IsListed}
use Rattle.tables_outline.proofs.Trees.{sorted_seen}

abbrev pub Named : Type 0
Named = String Global × Path

abbrev pub name_of : Named → String Global
name_of e = e.0

abbrev pub path_of : Named → Path
path_of e = e.1

-- all are taken
pub consumed : {B : Type 0} (f : Named → B) (items : List B) (left all : List Named) → left ≡ []
    → items ++ map f left ≡ map f all → items ≡ map f all
consumed f items left all none before =
    sym (append-nil items) ∙ ap (λ (l : List Named). items ++ map f l) (sym none) ∙ before

zipped : (es : List Named) → zip (map string_bytes (map name_of es)) (map path_of es) ≡ pairs es
zipped [] = refl
zipped (e ∷ es) = ap (λ (l : List (List ℕ × Path)). (string_bytes e.0, e.1) ∷ l) (zipped es)

as_many : (es : List Named) → length (map path_of es) ≡ length (map string_bytes (map name_of es))
as_many [] = refl
as_many (e ∷ es) = ap suc (as_many es)

abbrev nothing : Path → Unit {0}
nothing p = tt

units : (es : List Named) → map (λ (k : Path). let e : Path × Unit {0} = (k, tt) in e)
    (map string_bytes (map name_of es))
    ≡ map (λ (e : Named). let d : Path × Unit {0} = (string_bytes e.0, nothing e.1) in d) es
units [] = refl
units (e ∷ es) = ap (λ (l : List (Path × Unit {0})). (string_bytes e.0, tt) ∷ l) (units es)

from_T : (b : Bool) → T b → IsTrue b
from_T true h = refl
from_T false h = absurd h

-- names of a map in memory rise
abbrev pub AreOrdered : List Named → Type 0
AreOrdered es = IsStrictlySortedBy (λ a b. bytes_cmp (string_bytes a) (string_bytes b)) (keys_of es)

rises : (es : List Named) → AreOrdered es → IsTrue (rise (map string_bytes (map name_of es)))
rises es ordered =
    from_T _ (subst (λ (l : List (Path × Unit {0})). T (is_sorted bytes_cmp l)) (sym (units es))
    (sorted_seen bytes_cmp string_bytes nothing es ordered))

listed : (es : List Named) → AreOrdered es
    → IsListed (map string_bytes (map name_of es)) (map path_of es) (finite.from_entries (pairs es))
listed es ordered = record {
  in_order = rises es ordered;
  as_many = as_many es;
  all = ap finite.from_entries (zipped es);
}

pub listed_as : (es : List Named) → AreOrdered es → (names : List (String Global)) (paths : List Path)
    → names ≡ map name_of es → paths ≡ map path_of es
    → IsListed (map string_bytes names) paths (finite.from_entries (pairs es))
listed_as es ordered names paths n p =
    subst (λ (l : List (String Global)). IsListed (map string_bytes l) paths (finite.from_entries (pairs es))) (sym n)
    (subst (λ (l : List Path). IsListed (map string_bytes (map name_of es)) l (finite.from_entries (pairs es))) (sym p)
    (listed es ordered))
