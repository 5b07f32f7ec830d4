use Rattle.std.proofs.Common.{List, ap, arith, length, refl, subst}
use Rattle.live.specs.Backward.{IsTurnedBy, chosen, only_outputs}
use Rattle.live.specs.Places.{Entries}
use Rattle.live.proofs.Turned.{outputs_alone, sources_by}
use Rattle.live.proofs.turned_links.TurnedLinksSources.outputs_to.Goals as goal

pub sources_of-requires : goal.sources_of-requires
sources_of-requires c =
    (let n = c.self.invariant.outputs.count in let v = ap length c.self.view_is in let r = c.requires in omega arith)

pub returns : goal.returns
returns c =
    sources_by (chosen only_outputs) (λ e. e.outputs) c.args.self.now c.self.inside.outputs c.args.place
    c.sources_of.result.now outputs_alone refl
    (subst (λ (rows : List Entries). IsTurnedBy (chosen only_outputs) rows (length rows) c.self.inside.outputs)
    c.self.view_is c.self.invariant.outputs) c.sources_of.ensures
