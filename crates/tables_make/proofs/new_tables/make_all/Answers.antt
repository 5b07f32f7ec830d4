use Rattle.std.proofs.Common.{[], ◌∷◌, refl, arith}
use Rattle.std.specs.Prelude.{IsSome}
use Rattle.std.specs.Fmt.{digits}
use Rattle.sqlite.specs.Held.{state}
use Rattle.sqlite_tied.specs.Compute.{everything}
use Rattle.tables_schema.specs.Forms.{meta}
use Rattle.tables_make.specs.NewTables.{IsTooLong, other_tables}
use Rattle.tables_sql.proofs.Steps.{clean_before}
use Rattle.tables_sql.proofs.Scans.{on_ok, err_with}
use Rattle.tables_sql.proofs.TestFailures.{passed_on}
use Rattle.tables_make.proofs.Creates.{making_after}
use Rattle.tables_make.proofs.Inside.{both_keep}
use Rattle.tables_make.proofs.MakingTogether.{part, fails_after, fails_wider}
use Rattle.tables_make.proofs.Settles.{all_made}
use Rattle.tables_rows.proofs.Failed.{none_done}
use Rattle.tables_make.proofs.new_tables.make_all.Goals as goal

pub all-requires-clause-distinct : goal.all-requires-clause-distinct
unfolding digits everything
all-requires-clause-distinct g c = rw c.schema_tables.ensures refl

pub all-requires-clause-making : goal.all-requires-clause-making
unfolding digits everything
all-requires-clause-making g c clean =
    let made = c.in_ok-settle.ensures.done clean in
    let under = c.requires (clean_before _ _ _ c.settle.ensures.frame.survives clean) in
    rw c.schema_tables.ensures (making_after meta.name meta.columns meta.primary other_tables _ _ refl under
    made.was_open made.sound made.schema made.mode)

pub returns : goal.returns
unfolding digits everything
returns g c = record {
  frame =
      both_keep g.S.Store c.args.tx.now.conn c.settle.new.tx.conn c.all.new.tx.conn c.settle.ensures.frame
      c.all.ensures.frame;
  done = λ clean.
      let settled = c.in_ok-settle.ensures.done (clean_before _ _ _ c.all.ensures.frame.survives clean) in
      on_ok c.all.result _ _ (λ others. all_made c.args.store_dir.now _ _ _ settled others)
      (rw c.schema_tables.ensures at (c.all.ensures.done clean));
  cause = λ clean.
      let old = state g.S.Store c.args.tx.now.conn.now in
      let mid = state g.S.Store c.settle.new.tx.conn.now in
      let first = c.in_ok-settle.ensures.done (clean_before _ _ _ c.all.ensures.frame.survives clean) in
      err_with c.all.result _ _
      (fails_after (IsTooLong c.args.store_dir.now) (IsSome old.step_limit) old mid
      (state g.S.Store c.all.new.tx.conn.now) (part meta ∷ []) other_tables [] refl first.was_open first.schema
      first.is_open c.settle.ensures.frame.survives.counts)
      (rw c.schema_tables.ensures at (c.all.ensures.cause clean));
}

pub returns-in_err-settle : goal.returns-in_err-settle
returns-in_err-settle g c = record {
  frame = c.settle.ensures.frame;
  done = λ clean. none_done c.from_residual.result _ _ c.from_residual.ensures.1;
  cause = λ clean.
      let old = state g.S.Store c.args.tx.now.conn.now in
      let new = state g.S.Store c.settle.new.tx.conn.now in
      passed_on c.from_residual.result _ _ c.from_residual.ensures.1
      (fails_wider (IsTooLong c.args.store_dir.now) (IsSome old.step_limit) old new new _ _ (λ h. h) (λ h. h)
      (meta ∷ []) other_tables (omega arith) _ (c.in_err-settle.ensures.cause clean));
}
