use Rattle.std.proofs.Common.{subst}
use Rattle.live.specs.Places.{AllInside}
use Rattle.live.proofs.turned_links.TurnedLinksSources.len.Goals as goal

pub returns-clause-inside : goal.returns-clause-inside
returns-clause-inside c = subst AllInside c.self.view_is c.len.ensures.inside
