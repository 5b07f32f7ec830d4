use Rattle.std.proofs.Common.{sym, ap, ◌∙◌}
use Rattle.std.specs.FinMap as finite
use Rattle.model.specs.World.{Pair}
use Rattle.tables_outline.specs.Outline.{OutlineValue}
use Rattle.tables_writes.specs.TablesValue.{TablesValue}
use Rattle.tables_writes.proofs.tables.Tables.profile.Goals as goal

pub returns : goal.returns
returns g c w t =
    let owned : Pair = (c.args.owner.now, c.args.name.now) in
    c.profile.ensures ∙ ap (λ (k : Pair). finite.get c.self.inside.outline.profiles k) c.in_ok-key.ensures
    ∙ ap (λ (k : TablesValue _). finite.get k.outline.profiles owned) c.self.view_is
    ∙ ap (λ (o : OutlineValue). finite.get o.profiles owned) (sym t.outline)
