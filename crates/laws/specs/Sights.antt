-- Laws of roots as callers see them.
use Rattle.std.specs.Prelude.{◌≡◌, ◌⊎◌, List, [], ◌∷◌, map, codes, Some, IsTrue, IsFalse, Contains}
use Rattle.paths.specs.Root.{runtime, temporary, Root}
use Rattle.model.specs.World.{Pair, World}
use Rattle.policy.specs.Settings.{Settings}
use Rattle.policy.specs.Caller.{Caller}
use Rattle.policy.specs.Class.{class_of}
use Rattle.policy.specs.Rules.{is_trusted}
use Rattle.policy.specs.declared.kinds.Class.{Class}
use Rattle.policy.specs.declared.kinds.Rule.TheVariants.{Live}
use Rattle.model.specs.Request.{Request}
use Rattle.model.specs.Seen.{seen_root, seen}
use Rattle.model.specs.Verdict.{shown}
use Rattle.laws.specs.Laws.{NamesTheLiving}

-- a root without the label of a runtime or a temporary root: its target, and any other label
pub record HidesLabel (r : Root) (p : Pair) : Type 0 where
  pub target : p.1 ≡ r.target
  pub hidden : (r.kind ≡ runtime) ⊎ (r.kind ≡ temporary) → p.0 ≡ codes "{censored}"
  pub label : (r.kind ≡ runtime → ⊥) → (r.kind ≡ temporary → ⊥) → p.0 ≡ r.label

-- one root: a trusted caller sees its label and its target, and any other the same but for the label of a
-- runtime or temporary root
pub record SeesRoot (class : Class) (r : Root) : Type 0 where
  pub trusted : IsTrue (is_trusted class) → seen_root class r ≡ (r.label, r.target)
  pub others : IsFalse (is_trusted class) → HidesLabel r (seen_root class r)

-- the third list has the items of the second in their order, each once, and none that is in the first
abbrev pub AreFirsts : List Pair → List Pair → List Pair → Type 0
AreFirsts before [] ys = ys ≡ []
AreFirsts before (x ∷ xs) ys =
    (Contains before x × AreFirsts before xs ys)
    ⊎ ((Contains before x → ⊥) × ((more : List Pair) × (ys ≡ x ∷ more) × AreFirsts (x ∷ before) xs more))

-- roots in the order given: a trusted caller sees each, and any other sees equal pairs once, at the place of the first
pub record SeesRoots (class : Class) (roots : List Root) : Type 0 where
  pub trusted : IsTrue (is_trusted class) → seen class roots ≡ map (seen_root class) roots
  pub others : IsFalse (is_trusted class) → AreFirsts [] (map (seen_root class) roots) (seen class roots)

-- a denial for a live path shows a trusted caller the label itself
abbrev pub ShowsTheLabel : Type 0
ShowsTheLabel = (s : Settings) (w : World) (c : Caller) (q : Request) → IsTrue (is_trusted (class_of s c))
    → (denial : NamesTheLiving s w c q) → shown s w c q Live ≡ Some (denial.root.label, denial.root.target)
