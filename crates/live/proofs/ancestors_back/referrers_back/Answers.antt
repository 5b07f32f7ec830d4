use Rattle.live.proofs.Named.{referrers_found}
use Rattle.live.proofs.ancestors_back.referrers_back.Goals as goal

pub returns : goal.returns
returns g c graph name are used =
    referrers_found graph (g.S.Sources.entries c.args.links.now) name c.args.named.now c.in_ok-reaching.reaching
    (c.in_ok-reaching.ensures.paths graph name are used) c.in_ok-found.found.items c.in_ok-found.ensures
