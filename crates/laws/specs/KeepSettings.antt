-- Laws of what settings keep.
use Rattle.std.specs.Prelude.{◌≡◌, ◌↔◌, ℕ, List, Some, IsTrue}
use Rattle.std.specs.FinMap as finite
use Rattle.live.specs.Graph.{IsEdge}
use Rattle.model.specs.World.{Path, Object, World, has}
use Rattle.policy.specs.Settings.{Settings}
use Rattle.model.specs.Liveness.{graph_of, keep_of, lives}

-- An object keeps a path that is valid: each of its references, whatever the settings are; each of its outputs, if
-- outputs are to be kept; and its deriver, if derivations are to be kept.
pub data KeepsPath (s : Settings) (w : World) (q p : Path) : Type 0 where
  reference : (o : Object) → finite.get w.objects q ≡ Some o → IsTrue (has w p)
      → IsTrue (finite.contains_key o.references p) → KeepsPath s w q p
  output : (o : Object) → finite.get w.objects q ≡ Some o → IsTrue (has w p) → IsTrue s.keep_outputs → (name : List ℕ)
      → finite.get o.outputs name ≡ Some p → KeepsPath s w q p
  deriver : (o : Object) → finite.get w.objects q ≡ Some o → IsTrue (has w p) → IsTrue s.keep_derivations
      → o.deriver ≡ Some p → KeepsPath s w q p

-- the edges along which roots reach are exactly those from an object to a path that the object keeps
abbrev pub EdgesAsSet : Type 0
EdgesAsSet = (s : Settings) (w : World) (q p : Path) → IsEdge (keep_of s) (graph_of w) q p ↔ KeepsPath s w q p

-- what a live path keeps is live
abbrev pub LivingKeep : Type 0
LivingKeep = (s : Settings) (w : World) (q p : Path) → IsTrue (lives s w q) → KeepsPath s w q p → IsTrue (lives s w p)
