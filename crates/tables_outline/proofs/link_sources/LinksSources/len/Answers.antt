use Rattle.std.proofs.Common.{sym, ap, ◌∙◌, length}
use Rattle.tables_outline.specs.Links.{LinksValue, all_entries}
use Rattle.tables_outline.specs.LinksView.{links_view}
use Rattle.tables_outline.proofs.LinkNumbers.{all_inside, count}
use Rattle.tables_outline.proofs.link_sources.LinksSources.len.Goals as goal

pub returns-clause-value : goal.returns-clause-value
returns-clause-value c =
    c.len.ensures.count ∙ sym (count (links_view c.self.inside))
    ∙ ap (λ (l : LinksValue). length (all_entries l)) c.self.view_is

pub returns-clause-inside : goal.returns-clause-inside
returns-clause-inside c = all_inside c.args.self.now
