use Rattle.std.proofs.Common.{inl, inr, ◌+◌, [], ◌∷◌, ◌++◌, take, drop}
use Rattle.tables_sql.proofs.TestFailures.{passed_on}
use Rattle.tables_rows.proofs.Unsettled.{prefix_more}
use Rattle.tables_rows.proofs.within.entries.Goals as goal

pub returns-in_err-take-clause-cause : goal.returns-in_err-take-clause-cause
returns-in_err-take-clause-cause g c =
    let all = c.args.rows.now in
    let i = c.rows.row-index in
    let front = take i all ++ c.row-item.result ∷ [] in
    let why = c.in_err-take.ensures.refused in
    passed_on c.from_residual.result _ _ c.from_residual.ensures.1 (
      front,
      drop (i + 1) all,
      prefix_more all i c.row-item.result c.rows-test.true c.row-item.is,
      elim why [ inl memory ↦ inl memory | inr h ↦ inr (h.0, h.1 (take i all) c.rows.invariant) ],
    )
