-- Two runs with the same replies lead to one world.
use Rattle.std.proofs.Common.{[], ◌∷◌, sym, ◌∙◌, refl, subst}
use Rattle.model.specs.World.{World}
use Rattle.model.specs.Reply.{Reply, done, denied, refused, failed}
use Rattle.model.specs.Step.{Run}
use Rattle.model.specs.Labels.{FailAlike}
use Rattle.model.proofs.Unique.{unique}
use Rattle.laws.specs.Laws.{RunsEndAlike}

itself : (a : Reply) → FailAlike a a
itself (done a) = tt
itself (denied rule root) = tt
itself (refused r) = tt
itself (failed f) = refl

pub runs_end_alike : RunsEndAlike
runs_end_alike s w new1 new2 [] [] h k = h ∙ sym k
runs_end_alike s w new1 new2 (call ∷ calls) (reply ∷ replies) h k =
    let first = unique s w call.0 call.1 h.0 k.0 reply reply (itself reply) h.1 k.1 in
    runs_end_alike s k.0 new1 new2 calls replies (subst (λ (u : World). Run s u calls replies new1) first.1 h.2) k.2
runs_end_alike s w new1 new2 [] (reply ∷ replies) h k = absurd h
runs_end_alike s w new1 new2 (call ∷ calls) [] h k = absurd h
