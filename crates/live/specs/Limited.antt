-- Collection up to a limit: dead paths are deleted in groups, one group after another, until enough bytes are free.
use Rattle.std.specs.Prelude.{◌≡◌, ℕ, ◌-◌, ◌<◌, nat_lt, Bool, not, ◌&&◌, if◌then◌else◌, List, [], ◌∷◌, Option, Some}
use Rattle.std.specs.Prelude.{None, ◌⊎◌}
use Rattle.std.specs.List.{filter, find, list_any, sum_by}
use Rattle.std.specs.Option.{option_map, option_map_or, option_or}
use Rattle.std.specs.FinMap as finite
use Rattle.live.specs.Graph.{Path, same, holds, Graph, references_only, is_edge}
use Rattle.live.specs.Reach.{reaches}

-- whether one path refers to another; a reference to itself doesn't count
abbrev pub refers : Graph → Path → Path → Bool
refers g q p = not (same q p) && is_edge references_only g q p

-- whether another of the paths left refers to this one
abbrev pub is_referred_to : Graph → List Path → Path → Bool
is_referred_to g left p = list_any (λ q. refers g q p) left

-- the first dead path left, in path order, to which no other path left refers
abbrev pub next_unreferred : Graph → (Path → Bool) → List Path → Option (List Path)
next_unreferred g dead left = option_map (λ p. p ∷ []) (find (λ p. dead p && not (is_referred_to g left p)) left)

-- the first dead path left, in path order, and all left that reach it by references
abbrev pub next_with_referrers : Graph → (Path → Bool) → List Path → Option (List Path)
next_with_referrers g dead left = option_map (λ p. filter (λ q. reaches references_only g q p) left) (find dead left)

-- The next group of the paths left, if a dead one is left: a path to which no other path left refers; if each has such
-- a referrer, since references make a cycle, one with all that reach it.
abbrev pub next_group : Graph → (Path → Bool) → List Path → Option (List Path)
next_group g dead left = option_or (next_unreferred g dead left) (next_with_referrers g dead left)

-- what a group leaves of some paths
abbrev pub without : List Path → List Path → List Path
without group left = filter (λ p. not (holds group p)) left

-- From these paths left, with this number of bytes still wanted, these groups are deleted: each is the next one of the
-- paths left by those before it, which free less than is wanted; all free what is wanted, or no dead path is left.
abbrev pub DeletesGroups : Graph → (Path → Bool) → (Path → ℕ) → List Path → ℕ → List (List Path) → Type 0
DeletesGroups g dead size left wanted [] = (wanted ≡ 0) ⊎ (next_group g dead left ≡ None)
DeletesGroups g dead size left wanted (group ∷ groups) =
    (0 < wanted) × (next_group g dead left ≡ Some group)
    × DeletesGroups g dead size (without group left) (wanted - sum_by size group) groups

-- ---- groups, by a function that computes

-- the groups, at most as many as turns
unfoldable pub groups_by : Graph → (Path → Bool) → (Path → ℕ) → (turns : List Path) → List Path → ℕ → List (List Path)
groups_by g dead size [] left wanted = []
groups_by g dead size (turn ∷ turns) left wanted =
    if nat_lt 0 wanted
    then option_map_or
    (λ group. group ∷ groups_by g dead size turns (without group left) (wanted - sum_by size group))
    (next_group g dead left) []
    else []

-- the groups that are deleted from a graph up to a limit; each has a path, so there are no more of them than paths
abbrev pub limited_groups : Graph → (Path → Bool) → (Path → ℕ) → ℕ → List (List Path)
limited_groups g dead size limit = groups_by g dead size (finite.keys g) (finite.keys g) limit

-- whether some group has a path
abbrev pub is_among : List (List Path) → Path → Bool
is_among groups p = list_any (λ group. holds group p) groups

-- the paths that a collection up to a limit removes, in path order
abbrev pub limited_paths : Graph → (Path → Bool) → (Path → ℕ) → ℕ → List Path
limited_paths g dead size limit = filter (is_among (limited_groups g dead size limit)) (finite.keys g)
