use Rattle.std.proofs.Common.{◌∙◌}
use Rattle.std.proofs.lemmas.Result.{IfOk-weaker}
use Rattle.store_reach.proofs.Reported.{live_reported}
use Rattle.store_reach.proofs.liveness.live_paths.Goals as goal

pub returns : goal.returns
returns c =
    IfOk-weaker c.paths_by_life.result _ _
    (λ v chosen w is. chosen ∙ live_reported c.args.config.now w c.args.outline.now is)
    c.paths_by_life.ensures
