use Rattle.std.proofs.Common.{List, ap, arith, length, refl, subst}
use Rattle.live.specs.Backward.{IsTurnedBy, chosen, only_references}
use Rattle.live.specs.Places.{Entries}
use Rattle.live.proofs.Turned.{references_alone, sources_by}
use Rattle.live.proofs.turned_links.TurnedLinksSources.references_to.Goals as goal

pub sources_of-requires : goal.sources_of-requires
sources_of-requires c =
    (let n = c.self.invariant.references.count in let v = ap length c.self.view_is in let r = c.requires in omega arith)

pub returns : goal.returns
returns c =
    sources_by (chosen only_references) (λ e. e.references) c.args.self.now c.self.inside.references c.args.place
    c.sources_of.result.now references_alone refl
    (subst (λ (rows : List Entries). IsTurnedBy (chosen only_references) rows (length rows) c.self.inside.references)
    c.self.view_is c.self.invariant.references) c.sources_of.ensures
