use Rattle.std.proofs.Common.{sym, ap, ◌∙◌}
use Rattle.std.specs.FinMap as finite
use Rattle.tables_outline.specs.Rooted.{rooted}
use Rattle.model.specs.World.{roots_of}
use Rattle.tables_outline.specs.Outline.{OutlineValue}
use Rattle.tables_writes.specs.TablesValue.{TablesValue}
use Rattle.tables_writes.proofs.Outlined.{entries_outlined, roots_outlined}
use Rattle.tables_writes.proofs.tables.Tables.snapshot.Goals as goal

pub returns-clause-objects : goal.returns-clause-objects
returns-clause-objects g c w t =
    c.objects-objects.ensures ∙ ap (λ (k : TablesValue _). finite.entries k.outline.objects) c.self.view_is
    ∙ ap (λ (o : OutlineValue). finite.entries o.objects) (sym t.outline) ∙ entries_outlined w

pub returns-clause-roots : goal.returns-clause-roots
returns-clause-roots g c w t =
    c.in_ok-roots.ensures ∙ ap (λ (k : TablesValue _). roots_of (rooted k.outline)) c.self.view_is
    ∙ roots_outlined w c.args.self.now.outline t.outline
