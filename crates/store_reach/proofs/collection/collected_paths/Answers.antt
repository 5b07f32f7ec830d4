use Rattle.std.proofs.Common.{sym, ap, ◌∙◌}
use Rattle.std.proofs.lemmas.Result.{IfOk-weaker}
use Rattle.model.specs.Liveness.{collected_paths}
use Rattle.store_reach.proofs.collection.collected_paths.Goals as goal

pub returns-in-Some : goal.returns-in-Some
returns-in-Some c =
    IfOk-weaker c.limited_paths.result _ _
    (λ v e w reported. e w reported ∙ ap (collected_paths c.args.config.now w) (sym c.in-Some.is))
    c.limited_paths.ensures

pub returns-in-None : goal.returns-in-None
returns-in-None c =
    IfOk-weaker c.dead_paths.result _ _
    (λ v e w reported. e w reported ∙ ap (collected_paths c.args.config.now w) (sym c.in-None.is))
    c.dead_paths.ensures
