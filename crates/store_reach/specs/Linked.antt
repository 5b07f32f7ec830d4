-- What lives in an outline.
use Rattle.std.specs.Prelude.{Bool, not, if◌then◌else◌, List, Option, filter, map}
use Rattle.std.specs.FinMap as finite
use Rattle.live.specs.Graph.{Graph, Keep}
use Rattle.live.specs.Live.{first_root, is_live, roots_that_reach}
use Rattle.live.specs.Numbering.{Row, graph_of}
use Rattle.paths.specs.Root.{Root}
use Rattle.policy.specs.Settings.{Settings}
use Rattle.model.specs.World.{Path, roots_of}
use Rattle.tables_outline.specs.Outline.{OutlineValue, Outlined}
use Rattle.model.specs.Liveness.{keep_of}
use Rattle.tables_outline.specs.Rooted.{rooted}
use Rattle.tables_outline.specs.Turned.{links_in}

abbrev pub row_in : Path × Outlined → Row
row_in e = (e.0, links_in e.1)

-- the valid paths, each with what its object points to
abbrev pub rows_in : OutlineValue → List Row
rows_in o = map row_in (finite.entries o.objects)

-- the graph of an outline's objects
abbrev pub graph_in : OutlineValue → Graph
graph_in o = graph_of (rows_in o)

-- the roots whose targets are valid, in order
abbrev pub valid_roots : OutlineValue → List Root
valid_roots o = filter (λ r. finite.contains_key o.objects r.target) (roots_of (rooted o))

-- the first root that reaches a path
abbrev pub first_root_in : Keep → OutlineValue → Path → Option Root
first_root_in keep o p = first_root keep (graph_in o) (roots_of (rooted o)) p

-- the roots that reach a path, in order
abbrev pub roots_reaching_in : Keep → OutlineValue → Path → List Root
roots_reaching_in keep o p = roots_that_reach keep (graph_in o) (roots_of (rooted o)) p

-- whether some root reaches a path
abbrev pub lives_in : Settings → OutlineValue → Path → Bool
lives_in s o p = is_live (keep_of s) (graph_in o) (roots_of (rooted o)) p

-- whether a path is live, if live ones are asked for, or else dead
abbrev pub is_wanted : Bool → Bool → Bool
is_wanted wanted lives = if wanted then lives else not lives
