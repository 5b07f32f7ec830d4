-- What an outline says of the roots and of what is live in its world.
use Rattle.std.proofs.Common.{◌≡◌, List, map, sym, ap, ◌∙◌}
use Rattle.std.specs.Prelude.{not, filter}
use Rattle.std.specs.FinMap as finite
use Rattle.live.specs.Live.{is_live}
use Rattle.live.specs.Numbering.{graph_of}
use Rattle.policy.specs.Settings.{Settings}
use Rattle.model.specs.World.{Path, Object, World, all_paths, roots_of}
use Rattle.tables_outline.specs.Outline.{OutlineValue, Outlined, outlined, outline_of}
use Rattle.tables_writes.proofs.Outlined.{entries_outlined}
use Rattle.model.specs.Liveness as spec
use Rattle.model.specs.Liveness.{linked}
use Rattle.store_reach.specs.Linked.{row_in, rows_in, lives_in}
use Rattle.tables_outline.specs.Rooted.{rooted}
use Rattle.tables_outline.proofs.RootOrder.{map-map}

-- the same paths
pub paths_reported : (w : World) (o : OutlineValue) → outline_of w ≡ o → finite.keys o.objects ≡ all_paths w
paths_reported w o is =
    ap (λ (x : OutlineValue). finite.keys x.objects) (sym is)
    ∙ ap (map (λ (e : Path × Outlined). e.0)) (entries_outlined w)
    ∙ map-map (λ (e : Path × Object). let d : Path × Outlined = (e.0, outlined e.1) in d) (λ e. e.0)
    (finite.entries w.objects)

-- the same roots
pub roots_reported : (w : World) (o : OutlineValue) → outline_of w ≡ o → roots_of (rooted o) ≡ roots_of w
roots_reported w o is = ap (λ (x : OutlineValue). roots_of (rooted x)) (sym is)

-- the same graph
graph_outlined : (w : World) → graph_of (rows_in (outline_of w)) ≡ spec.graph_of w
unfolding linked
graph_outlined w =
    ap (λ (es : List (Path × Outlined)). finite.from_entries (map row_in es)) (entries_outlined w)
    ∙ ap finite.from_entries (map-map (λ (e : Path × Object). let d : Path × Outlined = (e.0, outlined e.1) in d) row_in
    (finite.entries w.objects))

pub graph_reported : (w : World) (o : OutlineValue) → outline_of w ≡ o → graph_of (rows_in o) ≡ spec.graph_of w
graph_reported w o is = ap (λ (x : OutlineValue). graph_of (rows_in x)) (sym is) ∙ graph_outlined w

-- the same lives
pub lives_reported : (s : Settings) (w : World) (o : OutlineValue) → outline_of w ≡ o → lives_in s o ≡ spec.lives s w
lives_reported s w o is = λ i p. is_live (spec.keep_of s) (graph_reported w o is i) (roots_reported w o is i) p

pub live_reported : (s : Settings) (w : World) (o : OutlineValue) → outline_of w ≡ o
    → filter (lives_in s o) (finite.keys o.objects) ≡ spec.live_paths s w
live_reported s w o is = λ i. filter (lives_reported s w o is i) (paths_reported w o is i)

pub dead_reported : (s : Settings) (w : World) (o : OutlineValue) → outline_of w ≡ o
    → filter (λ p. not (lives_in s o p)) (finite.keys o.objects) ≡ spec.dead_paths s w
dead_reported s w o is = λ i. filter (λ p. not (lives_reported s w o is i p)) (paths_reported w o is i)
