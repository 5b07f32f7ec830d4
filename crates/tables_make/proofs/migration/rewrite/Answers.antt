use Rattle.std.proofs.Common.{map, string_bytes, refl}
use Rattle.sqlite.specs.Held.{state}
use Rattle.tables_sql.specs.Contents.{contents_of}
use Rattle.tables_sql.proofs.Scans.{on_ok}
use Rattle.tables_sql.proofs.Steps.{clean_before}
use Rattle.tables_sql.proofs.TestFailures.{passed_on}
use Rattle.tables_sql.proofs.Transactions.{done_both}
use Rattle.tables_make.specs.Migrating.{CutRowsAt, SettingRow}
use Rattle.tables_rows.specs.Reasons.{Both, RowsOf}
use Rattle.tables_rows.proofs.Reasons.{as_reason, first_among, more_reason, next_reason, numbers_both, second_left}
use Rattle.tables_rows.proofs.Inside.{done_stays}
use Rattle.tables_rows.proofs.Failed.{none_done, always_failed}
use Rattle.tables_make.proofs.migration.rewrite.Goals as goal

pub returns : goal.returns
returns g c = record {
  frame =
      done_stays g.S.Store c.args.tx.now.conn c.cut_all.new.tx.conn c.renumber.new.tx.conn _
      c.cut_all.ensures.frame.same_reference c.in_ok-cut_all.ensures.done c.cut_all.ensures.frame.survives
      c.renumber.result c.renumber.ensures.frame;
  done =
      done_both (state g.S.Store c.args.tx.now.conn.now) (state g.S.Store c.cut_all.new.tx.conn.now)
      (state g.S.Store c.renumber.new.tx.conn.now) _ _ c.in_ok-cut_all.ensures.done
      c.renumber.ensures.frame.survives
      c.renumber.result _ (λ _. refl) c.renumber.ensures.done;
  numbers = λ clean.
      let a = state g.S.Store c.args.tx.now.conn.now in
      let b = state g.S.Store c.cut_all.new.tx.conn.now in
      let d = state g.S.Store c.renumber.new.tx.conn.now in
      let early = clean_before b d _ c.renumber.ensures.frame.survives clean in
      let cut = RowsOf (CutRowsAt (contents_of a.now)) (map string_bytes c.args.bases.now) in
      on_ok c.renumber.result _ _ (numbers_both (Both cut SettingRow) SettingRow a.now b.now d.now
      (second_left cut SettingRow a.now b.now (c.in_ok-cut_all.ensures.numbers early))
      (c.in_ok-cut_all.ensures.done early).schema) (c.renumber.ensures.numbers clean);
  cause = λ clean.
      let a = state g.S.Store c.args.tx.now.conn.now in
      let b = state g.S.Store c.cut_all.new.tx.conn.now in
      let d = state g.S.Store c.renumber.new.tx.conn.now in
      let early = clean_before b d _ c.renumber.ensures.frame.survives clean in
      let cut = RowsOf (CutRowsAt (contents_of a.now)) (map string_bytes c.args.bases.now) in
      as_reason _ _ (next_reason (Both cut SettingRow) SettingRow a b d _ (c.in_ok-cut_all.ensures.done early)
      c.cut_all.ensures.frame.survives
      (second_left cut SettingRow a.now b.now (c.in_ok-cut_all.ensures.numbers early)))
      c.renumber.result (c.renumber.ensures.cause clean);
}

pub returns-in_err-cut_all : goal.returns-in_err-cut_all
returns-in_err-cut_all g c = record {
  frame =
      record {
        same_reference = c.cut_all.ensures.frame.same_reference;
        failed = λ clean. always_failed c.from_residual.result _ (c.in_err-cut_all.ensures.frame.failed clean);
        survives = c.cut_all.ensures.frame.survives;
      };
  done = λ clean. none_done c.from_residual.result _ _ c.from_residual.ensures.1;
  numbers = λ clean. none_done c.from_residual.result _ _ c.from_residual.ensures.1;
  cause = λ clean.
      let cut =
      RowsOf (CutRowsAt (contents_of (state g.S.Store c.args.tx.now.conn.now).now))
      (map string_bytes c.args.bases.now) in
      passed_on c.from_residual.result _ _ c.from_residual.ensures.1
      (more_reason cut (Both cut SettingRow) (first_among cut SettingRow) (state g.S.Store c.args.tx.now.conn.now)
      (state g.S.Store c.cut_all.new.tx.conn.now) _ (c.in_err-cut_all.ensures.cause clean));
}
