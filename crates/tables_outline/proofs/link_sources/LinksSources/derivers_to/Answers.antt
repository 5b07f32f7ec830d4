use Rattle.std.proofs.Common.{length, refl, sym, subst, ◌<◌, List, ℕ}
use Rattle.live.specs.Sources.{AreSources}
use Rattle.tables_outline.specs.Links.{LinksValue, all_entries, sources_of}
use Rattle.tables_outline.specs.LinksView.{links_view}
use Rattle.tables_outline.proofs.LinkNumbers.{sources_are}
use Rattle.tables_outline.proofs.link_sources.LinksSources.derivers_to.Goals as goal

pub returns : goal.returns
returns c =
    let l = links_view c.self.inside in
    subst (λ (xs : List ℕ). AreSources (all_entries c.args.self.now) (λ e. e.deriver) c.args.place xs)
    (sym c.sources.ensures)
    (subst (λ (v : LinksValue). AreSources (all_entries v) (λ e. e.deriver) c.args.place
    (sources_of l.held l.derivers c.args.place)) c.self.view_is
    (sources_are l l.derivers c.self.invariant.derivers (λ e. e.deriver) refl (λ a. refl) c.args.place
    (subst (λ (v : LinksValue). c.args.place < length (all_entries v)) (sym c.self.view_is) c.requires)))
