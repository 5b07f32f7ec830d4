use Rattle.tables_sql.proofs.RowByRow.{answered_before}
use Rattle.tables_sql.proofs.Scans.{ok_with}
use Rattle.tables_sql.proofs.query.select.Goals as goal

pub returns : goal.returns
returns g c = record {
  idle = c.read_into.ensures.idle;
  shown = λ clean. ok_with c.read_into.result _ _ (λ all it. (it.0, it.1, it.2.0)) (c.read_into.ensures.shown clean);
  rises = λ clean. ok_with c.read_into.result _ _ (λ all it. it.2.1) (c.read_into.ensures.shown clean);
  cause = c.read_into.ensures.cause;
  same =
      λ clean settled. answered_before c.read_into.result _ _ c.requires _ _ settled _ _
      (c.read_into.ensures.shown clean) (c.read_into.ensures.cause clean);
  survives = c.read_into.ensures.survives;
}
