-- Roots as a caller sees them.
use Rattle.std.specs.Prelude.{ℕ, Bool, true, false, not, ◌&&◌, if◌then◌else◌, List, [], ◌∷◌, map, codes}
use Rattle.std.specs.List.{filter}
use Rattle.paths.specs.Root.{Kind, permanent, user, profile, runtime, temporary, Root}
use Rattle.live.specs.Graph.{same}
use Rattle.model.specs.World.{Pair}
use Rattle.policy.specs.declared.kinds.Class.{Class}
use Rattle.policy.specs.Rules.{is_trusted}

-- the label and the target of a root
abbrev pub plain : Root → Pair
plain r = (r.label, r.target)

-- whether the labels of roots of a kind are hidden: those of runtime and of temporary roots
abbrev pub is_hidden : Kind → Bool
is_hidden runtime = true
is_hidden temporary = true
is_hidden permanent = false
is_hidden user = false
is_hidden profile = false

-- what replaces a hidden label
abbrev pub hidden_label : List ℕ
hidden_label = codes "{censored}"

-- a root, its label hidden where its kind's are
abbrev pub censored : Root → Root
censored r = record r { label = if is_hidden r.kind then hidden_label else r.label }

abbrev pub same_pair : Pair → Pair → Bool
same_pair p q = same p.0 q.0 && same p.1 q.1

-- equal pairs are one, at the place of the first
abbrev pub each_once : List Pair → List Pair
each_once [] = []
each_once (p ∷ ps) = p ∷ filter (λ q. not (same_pair p q)) (each_once ps)

-- one root, as a caller of this class sees it
abbrev pub seen_root : Class → Root → Pair
seen_root class r = plain (if is_trusted class then r else censored r)

-- Roots in their order, as a caller of this class sees them: a trusted one sees each root; any other sees the labels of
-- runtime and temporary roots hidden, and equal pairs once.
abbrev pub seen : Class → List Root → List Pair
seen class roots = if is_trusted class then map plain roots else each_once (map plain (map censored roots))
