-- A request that only reads leaves the worlds of a store.
use Rattle.std.proofs.Common.{◌≡◌, subst, ◌∙◌}
use Rattle.sqlite_trees.specs.declared.store.Store.{Ghosts}
use Rattle.policy.specs.Caller.{Caller}
use Rattle.model.specs.World.{World}
use Rattle.model.specs.Request.{Request}
use Rattle.model.specs.Reply.{Reply, done, denied, refused, failed}
use Rattle.model.specs.Effects.{effect}
use Rattle.tables.specs.TablesValue.{HasWorld}
use Rattle.store.specs.View.{StoreView}
use Rattle.store.specs.Calls.{Calls}
use Rattle.tool.specs.Works.{KeepsWorlds}

-- each step of a request without an effect leads to the same world
pub unchanged : {S : Type 0} (g : Ghosts S) (c : Caller) (q : Request) (reply : Reply) (old new : StoreView S)
    → Calls g c q reply old new → ((w : World) → effect old.settings w q ≡ w) → KeepsWorlds g old new
unchanged g c q (done a) old new calls none w t =
    let step = calls.step w t in
    subst (λ (x : World). HasWorld g new.tables x) (step.1.0.3 ∙ none w) step.2
unchanged g c q (denied rule root) old new calls none w t =
    let step = calls.step w t in
    subst (λ (x : World). HasWorld g new.tables x) step.1.2 step.2
unchanged g c q (refused r) old new calls none w t =
    let step = calls.step w t in
    subst (λ (x : World). HasWorld g new.tables x) step.1.2 step.2
unchanged g c q (failed f) old new calls none w t =
    let step = calls.step w t in
    subst (λ (x : World). HasWorld g new.tables x) step.1.1 step.2
