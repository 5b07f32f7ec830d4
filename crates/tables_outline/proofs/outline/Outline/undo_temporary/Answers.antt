use Rattle.std.proofs.Common.{sym, ap, ◌∙◌}
use Rattle.std.specs.List.{list_any}
use Rattle.std.specs.Ordering.{is_eq}
use Rattle.std.specs.FinMap as finite
use Rattle.model.specs.World.{temporary_cmp}
use Rattle.tables_outline.specs.Maps.{seen_set, temporary_bytes}
use Rattle.tables_outline.specs.View.{outline_view}
use Rattle.tables_outline.specs.Outline.{OutlineValue}
use Rattle.tables_outline.specs.Temporary.{unkept}
use Rattle.tables_outline.proofs.SetTrees.{SessionEntry}
use Rattle.tables_outline.proofs.SessionTrees.{tuple_cmp, drop_kept}
use Rattle.tables_outline.proofs.outline.Outline.undo_temporary.Goals as goal

pub returns-then-not-had : goal.returns-then-not-had
returns-then-not-had c =
    let keys = c.self.inside.temporary.keys in
    let kept : SessionEntry = c.args.kept.now in
    ap (λ m. record (outline_view c.self.inside) { temporary = m })
    (ap (seen_set temporary_cmp temporary_bytes) c.remove.ensures.keys
    ∙ drop_kept keys kept (ap (list_any (λ k. is_eq (tuple_cmp kept k))) (sym c.remove.ensures.keys)
    ∙ c.remove.ensures.updates.1))
    ∙ ap (λ (o : OutlineValue). record o { temporary = finite.remove o.temporary (temporary_bytes kept) })
    c.self.view_is
    ∙ ap (λ h. record c.args.self.now { temporary = unkept c.args.self.now.temporary (temporary_bytes kept) h })
    (sym c.if-not-had.true)
