use Rattle.std.proofs.Common.{ℕ, List, ap, sym}
use Rattle.intake.specs.Arrival.{bytes_in}
use Rattle.model.specs.Request.{Imported}
use Rattle.store_types.specs.View.{import_view}
use Rattle.store_adds.proofs.delivered.at_end.Goals as goal

pub returns-clause-same : goal.returns-clause-same
returns-clause-same c =
    ap (λ (b : List ℕ). let i : Imported = record (import_view c.args.import) { nar = b } in i)
    (sym (ap bytes_in c.in_ok-nar.ensures.pieces))
