-- What lives in a world.
use Rattle.std.specs.Prelude.{ℕ, Bool, not, List, length, map, Option, Some, None}
use Rattle.std.specs.List.{filter, sum_by}
use Rattle.std.specs.Option.{option_map_or}
use Rattle.std.specs.FinMap as finite
use Rattle.paths.specs.Root.{Root}
use Rattle.live.specs.Graph.{Links, Graph, Keep}
use Rattle.live.specs.Reach.{refers_to_any}
use Rattle.live.specs.Live.{is_live, first_root, roots_that_reach}
use Rattle.live.specs.Limited.{limited_paths}
use Rattle.model.specs.World.{Path, Object, Objects, World, all_paths, roots_of}
use Rattle.policy.specs.Settings.{Settings}
use Rattle.model.specs.Reply.{Usage}

-- what an object points to
abbrev pub links_of : Object → Links
links_of o = record { references = finite.keys o.references; outputs = finite.values o.outputs; deriver = o.deriver }

-- the valid paths, each with what its object points to
unfoldable pub linked : Objects → Graph
linked objects = finite.from_entries (map (λ e. (e.0, links_of e.1)) (finite.entries objects))

abbrev pub graph_of : World → Graph
graph_of w = linked w.objects

abbrev pub keep_of : Settings → Keep
keep_of s = record { outputs = s.keep_outputs; derivations = s.keep_derivations }

-- whether some root reaches a path
abbrev pub lives : Settings → World → Path → Bool
lives s w p = is_live (keep_of s) (graph_of w) (roots_of w) p

-- the first root that reaches a path
abbrev pub first_root_of : Settings → World → Path → Option Root
first_root_of s w p = first_root (keep_of s) (graph_of w) (roots_of w) p

-- the roots that reach a path, in order
abbrev pub roots_that_keep : Settings → World → Path → List Root
roots_that_keep s w p = roots_that_reach (keep_of s) (graph_of w) (roots_of w) p

abbrev pub live_paths : Settings → World → List Path
live_paths s w = filter (lives s w) (all_paths w)

abbrev pub dead_paths : Settings → World → List Path
dead_paths s w = filter (λ p. not (lives s w p)) (all_paths w)

-- whether a path is one of the named or reaches one by references
abbrev pub is_deleted_with : World → List Path → Path → Bool
is_deleted_with w named p = refers_to_any (graph_of w) named p

-- the named paths and all that reach them by references, named or not
abbrev pub deleted_paths : World → List Path → List Path
deleted_paths w named = filter (is_deleted_with w named) (all_paths w)

-- ---- sizes

-- the bytes of a path's archive
abbrev pub size_of : World → Path → ℕ
size_of w p = option_map_or (λ o. length o.nar) (finite.get w.objects p) 0

abbrev pub bytes_in : World → List Path → ℕ
bytes_in w ps = sum_by (size_of w) ps

abbrev pub usage_of : World → List Path → Usage
usage_of w ps = record { paths = length ps; bytes = bytes_in w ps }

-- ---- collection

-- The paths that a collection removes, in order: all dead ones; with a limit those of the groups that are deleted one
-- after another until that many bytes are free.
abbrev pub collected_paths : Settings → World → Option ℕ → List Path
collected_paths s w None = dead_paths s w
collected_paths s w (Some limit) = limited_paths (graph_of w) (λ p. not (lives s w p)) (size_of w) limit
