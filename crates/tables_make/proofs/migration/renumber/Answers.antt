use Rattle.std.proofs.Common.{ap, codes, ◌∙◌}
use Rattle.std.specs.FinMap as finite
use Rattle.sqlite.specs.Held.{state}
use Rattle.tables_schema.specs.declared.schema.Schema.TheVariants.{V3}
use Rattle.tables_schema.specs.Schemas.{schema_text}
use Rattle.tables_sql.specs.Contents.{Contents}
use Rattle.tables_sql.proofs.Orders.{texts_total, texts_antisymmetric}
use Rattle.tables_sql.proofs.Scans.{on_ok}
use Rattle.tables_sql.proofs.Steps.{clean_before}
use Rattle.tables_sql.proofs.TestFailures.{passed_on}
use Rattle.tables_sql.proofs.Transactions.{done_both}
use Rattle.tables_make.specs.Migrating.{SettingRow}
use Rattle.tables_rows.proofs.Reasons.{all_among, as_reason, is_none, next_reason, none_put, numbers_both, put_reason}
use Rattle.tables_rows.proofs.Reasons.{removal_reason}
use Rattle.tables_make.proofs.Steps.{put_over}
use Rattle.tables_make.proofs.Uncut.{deleted}
use Rattle.tables_rows.proofs.Inside.{done_stays}
use Rattle.tables_rows.proofs.Failed.{none_done, always_failed}
use Rattle.tables_make.proofs.migration.renumber.Goals as goal

-- the setting isn't there any more
pub returns : goal.returns
returns g c = record {
  frame =
      done_stays g.S.Store c.args.tx.now.conn c.delete.new.tx.conn c.insert.new.tx.conn _
      c.delete.ensures.frame.same_reference c.in_ok-delete.ensures.done c.delete.ensures.frame.survives
      c.insert.result c.insert.ensures.frame;
  done =
      done_both (state g.S.Store c.args.tx.now.conn.now) (state g.S.Store c.delete.new.tx.conn.now)
      (state g.S.Store c.insert.new.tx.conn.now) _ _ c.in_ok-delete.ensures.done c.insert.ensures.frame.survives
      c.insert.result _ (λ (x : Contents). ap (λ m. record x { meta = m })
      (put_over texts_total texts_antisymmetric x.meta (codes "schema") (schema_text V3)))
      (rw c.text.ensures at c.insert.ensures.done);
  numbers = λ clean.
      let a = state g.S.Store c.args.tx.now.conn.now in
      let b = state g.S.Store c.delete.new.tx.conn.now in
      let d = state g.S.Store c.insert.new.tx.conn.now in
      let early = clean_before b d _ c.insert.ensures.frame.survives clean in
      on_ok c.insert.result _ _ (numbers_both SettingRow SettingRow a.now b.now d.now
      (none_put SettingRow a.now b.now (c.in_ok-delete.ensures.numbers early))
      (c.in_ok-delete.ensures.done early).schema) (c.insert.ensures.numbers clean);
  cause = λ clean.
      let a = state g.S.Store c.args.tx.now.conn.now in
      let b = state g.S.Store c.delete.new.tx.conn.now in
      let d = state g.S.Store c.insert.new.tx.conn.now in
      let early = clean_before b d _ c.insert.ensures.frame.survives clean in
      let done = c.in_ok-delete.ensures.done early in
      as_reason _ _ (λ e h. next_reason SettingRow SettingRow a b d _ done c.delete.ensures.frame.survives
      (none_put SettingRow a.now b.now (c.in_ok-delete.ensures.numbers early)) e
      (put_reason SettingRow b d _ _ _ (all_among SettingRow)
      (is_none _ (ap (λ (x : Contents). finite.get x.meta (codes "schema")) done.contents
      ∙ deleted texts_total texts_antisymmetric _ (codes "schema"))) e h)) c.insert.result
      (rw c.text.ensures at c.insert.ensures.cause clean);
}

pub returns-in_err-delete : goal.returns-in_err-delete
returns-in_err-delete g c = record {
  frame =
      record {
        same_reference = c.delete.ensures.frame.same_reference;
        failed = λ clean. always_failed c.from_residual.result _ (c.in_err-delete.ensures.frame.failed clean);
        survives = c.delete.ensures.frame.survives;
      };
  done = λ clean. none_done c.from_residual.result _ _ c.from_residual.ensures.1;
  numbers = λ clean. none_done c.from_residual.result _ _ c.from_residual.ensures.1;
  cause =
      λ clean. passed_on c.from_residual.result _ _ c.from_residual.ensures.1
      (removal_reason _ (state g.S.Store c.args.tx.now.conn.now) (state g.S.Store c.delete.new.tx.conn.now) _
      (c.in_err-delete.ensures.cause clean));
}
