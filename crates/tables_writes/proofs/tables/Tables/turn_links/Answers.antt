use Rattle.std.proofs.Common.{ap, subst, sym, ◌∙◌}
use Rattle.tables_outline.specs.Outline.{OutlineValue}
use Rattle.tables_writes.specs.TablesValue.{Agrees, TablesValue}
use Rattle.tables_writes.proofs.tables.Tables.turn_links.Goals as goal

pub invariant_of-self : goal.invariant_of-self
invariant_of-self g c =
    subst (λ (o : OutlineValue). Agrees g.S.Store
    (record { connection = c.self.inside.connection; dir = c.self.inside.dir; outline = o }))
    (sym c.turn_links.ensures) c.self.invariant

pub returns : goal.returns
returns g c =
    ap (λ (o : OutlineValue). let t : TablesValue _ =
    record { connection = c.self.inside.connection; dir = c.self.inside.dir; outline = o } in t)
    c.turn_links.ensures ∙ c.self.view_is
