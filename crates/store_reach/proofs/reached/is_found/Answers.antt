use Rattle.std.proofs.Common.{ap, sym, ◌∙◌}
use Rattle.live.specs.Reaching.{reaches_any}
use Rattle.store_reach.proofs.WalksBack.{reaching_none}
use Rattle.store_reach.proofs.reached.is_found.Goals as goal

pub returns-in-Some : goal.returns-in-Some
returns-in-Some c keep g named are found =
    let at = c.in-Some.ensures.some in
    c.has.ensures ∙ found c.in-Some.number at.2 ∙ ap (reaches_any keep g named) at.3

pub returns-in-None : goal.returns-in-None
returns-in-None c keep g named are found =
    sym (reaching_none g c.args.links.now are keep named c.args.path.now c.in-None.ensures.none)
