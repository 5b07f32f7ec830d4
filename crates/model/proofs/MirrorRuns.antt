-- Runs in two worlds that differ in runtime labels alone.
use Rattle.std.proofs.Common.{[], ◌∷◌, refl, sym, ◌∙◌, subst}
use Rattle.model.specs.World.{World}
use Rattle.policy.specs.Settings.{Settings}
use Rattle.policy.specs.Caller.{Caller}
use Rattle.model.specs.Request.{Request}
use Rattle.model.specs.Reply.{Reply, done, denied, refused, failed}
use Rattle.model.specs.Step.{Step}
use Rattle.model.specs.Labels.{DifferInLabels, FailAlike, LookAlike, MirrorsRuns, RunsLookAlike}
use Rattle.model.proofs.Unique.{unique}
use Rattle.model.proofs.Mirror.{mirrors_steps}

pub mirrors_runs : MirrorsRuns
mirrors_runs s w v new [] [] d h = ([], v, refl, tt, subst (λ (u : World). DifferInLabels u v) (sym h) d)
mirrors_runs s w v new (call ∷ calls) (reply ∷ replies) d h =
    let first = mirrors_steps s w v d call.0 call.1 reply h.0 h.1 in
    let rest = mirrors_runs s h.0 first.1 new calls replies first.4 h.2 in
    (first.0 ∷ rest.0, rest.1, (first.1, first.2, rest.2), (first.3, rest.3), rest.4)
mirrors_runs s w v new [] (reply ∷ replies) d h = absurd h
mirrors_runs s w v new (call ∷ calls) [] d h = absurd h

-- ---- any two runs

agree : (a b d : Reply) → FailAlike a b → FailAlike a d → FailAlike b d
agree (failed f) (failed g) (failed k) h j = sym h ∙ j
agree (failed f) (failed g) (done x) h j = j
agree (failed f) (failed g) (denied x y) h j = j
agree (failed f) (failed g) (refused x) h j = j
agree (failed f) (done x) d h j = absurd h
agree (failed f) (denied x y) d h j = absurd h
agree (failed f) (refused x) d h j = absurd h
agree (done a) (failed g) d h j = absurd h
agree (denied a e) (failed g) d h j = absurd h
agree (refused a) (failed g) d h j = absurd h
agree (done a) b (failed k) h j = absurd j
agree (denied a e) b (failed k) h j = absurd j
agree (refused a) b (failed k) h j = absurd j
agree (done a) _ _ h j = tt
agree (denied a e) _ _ h j = tt
agree (refused a) _ _ h j = tt

-- two steps of one request
pub steps_look_alike : (s : Settings) (w v new next : World) (c : Caller) (q : Request) (a b : Reply)
    → DifferInLabels w v → Step s w c q a new → Step s v c q b next
    → FailAlike a b → LookAlike s c a b × DifferInLabels new next
steps_look_alike s w v new next c q a b d h k e =
    let m = mirrors_steps s w v d c q a new h in
    let one = unique s v c q m.1 next m.0 b (agree a m.0 b m.3.failures e) m.2 k in
    (subst (λ (r : Reply). LookAlike s c a r) one.0 m.3, subst (λ (u : World). DifferInLabels new u) one.1 m.4)

pub runs_look_alike : RunsLookAlike
runs_look_alike s w v new next [] [] [] d h k e =
    record {
      look = tt;
      worlds = subst (λ (u : World). DifferInLabels new u) (sym k)
          (subst (λ (u : World). DifferInLabels u v) (sym h) d);
    }
runs_look_alike s w v new next (call ∷ calls) (a ∷ replies) (b ∷ others) d h k e =
    let first = steps_look_alike s w v h.0 k.0 call.0 call.1 a b d h.1 k.1 e.0 in
    let rest = runs_look_alike s h.0 k.0 new next calls replies others first.1 h.2 k.2 e.1 in
    record { look = (first.0, rest.look); worlds = rest.worlds }
runs_look_alike s w v new next [] [] (b ∷ others) d h k e = absurd k
runs_look_alike s w v new next [] (a ∷ replies) others d h k e = absurd h
runs_look_alike s w v new next (call ∷ calls) [] others d h k e = absurd h
runs_look_alike s w v new next (call ∷ calls) (a ∷ replies) [] d h k e = absurd k
