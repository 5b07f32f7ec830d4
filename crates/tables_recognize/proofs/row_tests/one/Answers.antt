use Rattle.std.proofs.Common.{sym, subst}
use Rattle.tables_sql.specs.Queries.{IsSelect}
use Rattle.tables_sql.proofs.Scans.{err_with}
use Rattle.tables_recognize.proofs.ReadableRows.{if_ok}
use Rattle.tables_recognize.proofs.Tests.{test_of}
use Rattle.tables_recognize.proofs.row_tests.one.Goals as goal
use Rattle.tables_sql.proofs.Steps.{clean_before}

pub check-requires-clause-reads : goal.check-requires-clause-reads
check-requires-clause-reads g c = subst IsSelect (sym c.rows.ensures) (test_of c.args.table).reads

pub returns : goal.returns
returns g c = record {
  frame = c.check.ensures.frame;
  reported = λ clean.
      let before = clean_before _ _ _ c.check.ensures.frame.survives clean in
      if_ok c.check.result _ _
      (λ b h.
      let shown = rw c.rows.ensures at h in
      let up = shown.1.1.1.0.was_open in
      (test_of c.args.table).reported _ _ (c.requires.sound before up) (c.requires.exists before up) b shown)
      (c.check.ensures.shown clean);
  cause = λ clean.
      err_with c.check.result _ _
      (λ f h. (test_of c.args.table).failed _ _
      (c.requires.exists (clean_before _ _ _ c.check.ensures.frame.survives clean)) f (rw c.rows.ensures at h))
      (c.check.ensures.cause clean);
}
