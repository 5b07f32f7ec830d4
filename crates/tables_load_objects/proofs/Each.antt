-- Objects that are taken one after another: what is left decides, and makes the rest.
use Rattle.std.proofs.Common.{◌≡◌, ℕ, Bool, suc, ◌+◌, ◌<◌, List, [], ◌∷◌, map, length, get_or, drop, drop-cons, arith}
use Rattle.std.proofs.Common.{refl, sym, ap, ap₂, subst, ◌∙◌, IsTrue, String, Global, string_bytes}
use Rattle.std.specs.Prelude.{◌↔◌}
use Rattle.std.specs.FinMap as finite
use Rattle.std.specs.List.{AllByRecursion}
use Rattle.sqlite.specs.State.{State, IsUnchanged}
use Rattle.tables_sql.specs.Calls.{KeepsShown}
use Rattle.tables_sql.specs.Contents.{Contents}
use Rattle.model.specs.World.{Path}
use Rattle.tables_schema.specs.declared.schema.Schema.{Schema}
use Rattle.tables_load_objects.specs.Loaded.{Objects, IsSoundOne, with_object, with_objects}

-- what is left begins with the item at this place
pub left_at : {A : Type 0} (xs : List A) (i : ℕ) (x : A) → i < length xs → x ≡ get_or xs i x
    → drop i xs ≡ x ∷ drop (i + 1) xs
left_at xs i x h is =
    let next : suc i ≡ i + 1 = omega arith in
    drop-cons xs i x h ∙ ap₂ (λ y n. y ∷ drop n xs) (sym is) next

pub shown_of : (a b : State) → IsUnchanged a b → KeepsShown a b
shown_of a b h = record { was_open = λ _. h.0.was_open; now = λ _. h.0.now_is; committed = λ _. h.0.committed_is }

pub no_change : (s : State) → IsTrue s.is_open → IsUnchanged s s
no_change s is_open = (
  record { was_open = is_open; is_open = is_open; now_is = refl; committed_is = refl; mode = refl },
  record { changes = refl; last_rowid = refl },
  refl,
)

module _ (schema : Schema) (dir : List ℕ) (c : Contents) (all : List Path) where
  abbrev P : Path → Type 0
  P = IsSoundOne schema dir c

  abbrev pub Decides : List (String Global) → Type 0
  Decides left = AllByRecursion P (map string_bytes left) ↔ AllByRecursion P all

  -- the next one was sound
  pub decides_next : (left rest : List (String Global)) (x : String Global) → left ≡ x ∷ rest → P (string_bytes x)
      → Decides left → Decides rest
  decides_next left rest x split one h =
      let now : Decides (x ∷ rest) = subst Decides split h in
      (λ later. now.0 (one, later), λ every. (now.1 every).1)

  pub decides_one : (left rest : List (String Global)) (x : String Global) → left ≡ x ∷ rest → Decides left
      → AllByRecursion P all → P (string_bytes x)
  decides_one left rest x split h every =
      let now : Decides (x ∷ rest) = subst Decides split h in
      (now.1 every).0

  pub decides_all : (left : List (String Global)) → left ≡ [] → Decides left → AllByRecursion P all
  decides_all left none h = let now : Decides [] = subst Decides none h in now.0 tt

module _ (c : Contents) (o : Objects) (all : List Path) where
  abbrev pub Makes : List (String Global) → Objects → Type 0
  Makes left now = with_objects c (map string_bytes left) now ≡ with_objects c all o

  pub makes_next : (left rest : List (String Global)) (x : String Global) (now next : Objects) → left ≡ x ∷ rest
      → next ≡ with_object c (string_bytes x) now → Makes left now → Makes rest next
  makes_next left rest x now next split is h =
      ap (with_objects c (map string_bytes rest)) is
      ∙ ap (λ (l : List (String Global)). with_objects c (map string_bytes l) now) (sym split) ∙ h

  pub makes_all : (left : List (String Global)) (now : Objects) → left ≡ [] → Makes left now
      → now ≡ with_objects c all o
  makes_all left now none h = sym (ap (λ (l : List (String Global)). with_objects c (map string_bytes l) now) none) ∙ h

-- an answer on some paths of some contents is one on these, which are the same
pub as_asked : (schema : Schema) (dir : List ℕ) (b a : Contents) (ps : List Path) → b ≡ a → ps ≡ finite.keys a.objects
    → (ok : Bool) → IsTrue ok ↔ AllByRecursion (IsSoundOne schema dir b) ps
    → IsTrue ok ↔ AllByRecursion (IsSoundOne schema dir a) (finite.keys a.objects)
as_asked schema dir b a ps same are ok h =
    subst (λ (l : List Path). IsTrue ok ↔ AllByRecursion (IsSoundOne schema dir a) l) are
    (subst (λ (x : Contents). IsTrue ok ↔ AllByRecursion (IsSoundOne schema dir x) ps) same h)
