-- A walk from named places against the edges: the marks and the steps. And numbers that stand for the paths of a graph.
use Rattle.std.specs.Prelude.{◌≡◌, ℕ, ◌+◌, ◌<◌, nat_lt, Bool, List, length, map, IsTrue, Contains}
use Rattle.std.specs.List.{filter, list_any, range_with_len, slice_index, sum_by}
use Rattle.paths.specs.Root.{Root}
use Rattle.live.specs.Backward.{IsBackward}
use Rattle.live.specs.Graph.{Graph, IsEdge, Keep, Path, is_valid}
use Rattle.live.specs.Marks.{Frontier, all_reached, marked_cost, reported}
use Rattle.live.specs.Numbering.{root_at}
use Rattle.live.specs.Places.{Entries, edges_at}
use Rattle.live.specs.Reach.{reaches}
use Rattle.live.specs.Sources.{times_among}

-- how many edges there are to a place, each entry once
abbrev pub edges_to : Keep → List Entries → ℕ → ℕ
edges_to keep rows place = sum_by (λ a. times_among (edges_at keep rows a) place) (range_with_len 0 (length rows))

-- what a place costs that is visited: itself, and each edge to it
abbrev pub cost_to : Keep → List Entries → ℕ → ℕ
cost_to keep rows place = 1 + edges_to keep rows place

abbrev pub costs_to : Keep → List Entries → List ℕ
costs_to keep rows = map (cost_to keep rows) (range_with_len 0 (length rows))

-- a place was visited: what has an edge to it is reached, and it is counted, with each edge to it
pub record IsVisited (keep : Keep) (rows : List Entries) (place : ℕ) (old new : Frontier) (before after : ℕ) : Type
    0 where
  pub sources : List ℕ
  pub each : (a : ℕ) → times_among sources a ≡ times_among (edges_at keep rows a) place
  pub reached : new ≡ all_reached 1 0 old sources
  pub counted : reported after ≡ reported (before + (1 + length sources))

-- what a walk against the edges leaves: a mark of 0 for each place that reaches a named one, and the steps that it took
pub record Reaching : Type 0 where
  pub marks : List ℕ
  pub steps : ℕ

-- whether a place is marked
abbrev pub is_marked : Reaching → ℕ → Bool
is_marked r i = nat_lt (slice_index r.marks i) 1

-- exactly what reaches a named place is marked; a step for each marked place, and for each edge to one
pub record IsReaching (keep : Keep) (rows : List Entries) (named : List ℕ) (r : Reaching) : Type 0 where
  pub backward : IsBackward keep rows named r.marks
  pub steps : r.steps ≡ reported (marked_cost 1 (costs_to keep rows) r.marks)

-- ---- by paths

-- Numbers that stand for the valid paths of a graph. Each valid path has one number, and edges are entries. A number
-- may
-- be free: then it stands for no valid path, and has no entries.
pub record AreNumbers (g : Graph) (rows : List Entries) (name : ℕ → Path) : Type 0 where
  pub all : (p : Path) → IsTrue (is_valid g p) → (i : ℕ) × (i < length rows) × (name i ≡ p)
  pub one : (i j : ℕ) → i < length rows → j < length rows → IsTrue (is_valid g (name j)) → name i ≡ name j → i ≡ j
  pub edge : (keep : Keep) (a b : ℕ) → a < length rows → Contains (edges_at keep rows a) b
      → (b < length rows) × IsEdge keep g (name a) (name b)
  pub entry : (keep : Keep) (a b : ℕ) → a < length rows → b < length rows → IsEdge keep g (name a) (name b)
      → Contains (edges_at keep rows a) b

-- the numbers of the targets of roots
pub record AreTargets (name : ℕ → Path) (roots : List Root) (targets : List ℕ) : Type 0 where
  pub count : length targets ≡ length roots
  pub names : (k : ℕ) → k < length roots → name (slice_index targets k) ≡ (root_at roots k).target

-- the named numbers stand for valid paths
abbrev pub AreUsed : Graph → (ℕ → Path) → List ℕ → Type 0
AreUsed g name named = (i : ℕ) → Contains named i → IsTrue (is_valid g (name i))

-- whether a path reaches one of the named
abbrev pub reaches_any : Keep → Graph → List Path → Path → Bool
reaches_any keep g named p = list_any (reaches keep g p) named

-- exactly the numbers of paths that reach a named one are marked; a step for each such path, and for each edge to one
pub record IsExactlyReaching (keep : Keep) (g : Graph) (rows : List Entries) (name : ℕ → Path) (named : List ℕ)
    (r : Reaching) : Type 0 where
  pub count : length r.marks ≡ length rows
  pub marks : (i : ℕ) → i < length rows → is_marked r i ≡ reaches_any keep g (map name named) (name i)
  pub steps : r.steps ≡ reported
      (sum_by (cost_to keep rows)
      (filter (λ i. reaches_any keep g (map name named) (name i)) (range_with_len 0 (length rows))))
