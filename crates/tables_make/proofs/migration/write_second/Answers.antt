use Rattle.std.proofs.Common.{inl}
use Rattle.sqlite.specs.Held.{state}
use Rattle.sqlite.specs.State.{HasCleanDisk}
use Rattle.tables_schema.specs.declared.schema.Schema.TheVariants.{V2}
use Rattle.tables_sql.proofs.Steps.{clean_before}
use Rattle.tables_sql.proofs.TestFailures.{passed_on}
use Rattle.tables_make.specs.Migrating.{SettingRow}
use Rattle.tables_make.proofs.MigratingFailures.{rows_fail}
use Rattle.tables_rows.proofs.Reasons.{as_reason}
use Rattle.tables_make.proofs.Grown.{last_named, grows, makes_under, pieces_still, on_done}
use Rattle.tables_rows.proofs.Failed.{none_done}
use Rattle.tables_make.proofs.Inside.{write_after}
use Rattle.tables_make.proofs.migration.write_second.Goals as goal

pub make_temp_root-requires : goal.make_temp_root-requires
make_temp_root-requires g c =
    record { under_way = c.requires.under_way; tables = λ clean up. (c.requires.tables clean up).0 }

pub renumber-requires : goal.renumber-requires
renumber-requires g c clean =
    makes_under _ (state g.S.Store c.args.tx.now.conn.now) (state g.S.Store c.make_temp_root.new.tx.conn.now)
    (c.in_ok-make_temp_root.ensures.done clean)

pub returns : goal.returns
returns g c = record {
  frame =
      write_after g.S.Store c.args.tx.now.conn c.make_temp_root.new.tx.conn c.renumber.new.tx.conn _ c.renumber.result
      c.make_temp_root.ensures.frame c.renumber.ensures.frame c.renumber.ensures.done;
  done = λ clean.
      let a = state g.S.Store c.args.tx.now.conn.now in
      let b = state g.S.Store c.make_temp_root.new.tx.conn.now in
      let d = state g.S.Store c.renumber.new.tx.conn.now in
      let early : HasCleanDisk b = clean_before b d _ c.renumber.ensures.frame.survives clean in
      let made = c.in_ok-make_temp_root.ensures.done early in
      let pieces =
      (c.requires.tables (clean_before a b _ c.make_temp_root.ensures.frame.survives early) made.was_open).1 in
      on_done c.renumber.result _ _
      (λ changed. grows _ a b d _ made changed (pieces_still _ a b made pieces) made.exist.0)
      (c.renumber.ensures.done clean);
  cause = λ clean.
      let a = state g.S.Store c.args.tx.now.conn.now in
      let b = state g.S.Store c.make_temp_root.new.tx.conn.now in
      let d = state g.S.Store c.renumber.new.tx.conn.now in
      as_reason _ _ (rows_fail V2 last_named a b d
      (c.in_ok-make_temp_root.ensures.done (clean_before b d _ c.renumber.ensures.frame.survives clean))
      c.make_temp_root.ensures.frame.survives SettingRow) c.renumber.result (c.renumber.ensures.cause clean);
}

pub returns-in_err-make_temp_root : goal.returns-in_err-make_temp_root
returns-in_err-make_temp_root g c = record {
  frame = c.make_temp_root.ensures.frame;
  done = λ clean. none_done c.from_residual.result _ _ c.from_residual.ensures.1;
  cause =
      λ clean. passed_on c.from_residual.result _ _ c.from_residual.ensures.1
      (inl (c.in_err-make_temp_root.ensures.cause clean));
}
