use Rattle.std.proofs.Common.{[], unwrap_or, ap, ◌∙◌}
use Rattle.std.proofs.lemmas.Result.{IfOk-weaker}
use Rattle.clap.specs.Walk.{texts}
use Rattle.clap.specs.Matches.{found_of}
use Rattle.clap.proofs.WalkLemmas.{raw_values-rows}
use Rattle.tool_words.proofs.values.values.Goals as goal

pub returns-in-Some : goal.returns-in-Some
returns-in-Some c =
    let found = c.in-Some.ensures ∙ raw_values-rows (found_of c.args.matches.now) c.args.id.now in
    IfOk-weaker c.to_vec.result _ _ (λ v same. ap texts (same (λ x y e. e)) ∙ ap (λ o. unwrap_or o []) found)
    c.to_vec.ensures.items_if_clones_equal

pub returns-in-None : goal.returns-in-None
returns-in-None c =
    ap texts c.new.ensures.items
    ∙ ap (λ o. unwrap_or o []) (c.in-None.ensures ∙ raw_values-rows (found_of c.args.matches.now) c.args.id.now)
