use Rattle.std.proofs.Common.{not, ap, ◌∙◌, rules}
use Rattle.std.proofs.lemmas.Fn.{filter_same}
use Rattle.model.specs.World.{Temporary, temporary_cmp}
use Rattle.tables_outline.specs.Maps.{seen_set, temporary_bytes}
use Rattle.tables_outline.specs.View.{outline_view}
use Rattle.tables_outline.specs.Outline.{OutlineValue}
use Rattle.model.specs.Effects.{is_of_session}
use Rattle.tables_outline.specs.Temporary.{entries_without_session}
use Rattle.tables_outline.proofs.Orders.{temporary_total, temporary_antisymmetric}
use Rattle.tables_outline.proofs.SetTrees.{SessionEntry}
use Rattle.tables_outline.proofs.SessionTrees.{keys_retained}
use Rattle.tables_outline.proofs.outline.Outline.end_session.Goals as goal

pub returns-clause-done : goal.returns-clause-done
returns-clause-done c =
    let owner = c.args.owner.now in
    let session = c.args.session in
    ap (λ m. record (outline_view c.self.inside) { temporary = m })
    (ap (seen_set temporary_cmp temporary_bytes)
    (filter_same _ (λ (k : SessionEntry). not (is_of_session owner session (temporary_bytes k))) _
    (λ x b f' k. search rules) _ _ c.retain.ensures.filtered)
    ∙ keys_retained temporary_cmp temporary_bytes temporary_total temporary_antisymmetric
    (λ (t : Temporary). not (is_of_session owner session t)) c.self.inside.temporary.keys)
    ∙ ap (λ (o : OutlineValue). record o { temporary = entries_without_session owner session o.temporary })
    c.self.view_is
