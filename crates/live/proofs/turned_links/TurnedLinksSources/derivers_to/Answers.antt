use Rattle.std.proofs.Common.{List, ap, arith, length, refl, subst}
use Rattle.live.specs.Backward.{IsTurnedBy, chosen, only_derivers}
use Rattle.live.specs.Places.{Entries}
use Rattle.live.proofs.Turned.{derivers_alone, sources_by}
use Rattle.live.proofs.turned_links.TurnedLinksSources.derivers_to.Goals as goal

pub sources_of-requires : goal.sources_of-requires
sources_of-requires c =
    (let n = c.self.invariant.derivers.count in let v = ap length c.self.view_is in let r = c.requires in omega arith)

pub returns : goal.returns
returns c =
    sources_by (chosen only_derivers) (λ e. e.deriver) c.args.self.now c.self.inside.derivers c.args.place
    c.sources_of.result.now derivers_alone refl
    (subst (λ (rows : List Entries). IsTurnedBy (chosen only_derivers) rows (length rows) c.self.inside.derivers)
    c.self.view_is c.self.invariant.derivers) c.sources_of.ensures
