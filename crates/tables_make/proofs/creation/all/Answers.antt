use Rattle.std.proofs.Common.{arith, refl, ◌∙◌}
use Rattle.sqlite.specs.Held.{state}
use Rattle.tables_sql.proofs.Steps.{clean_before}
use Rattle.tables_sql.proofs.TestFailures.{passed_on, survives_both}
use Rattle.tables_sql.proofs.Transactions.{survives_none}
use Rattle.tables_make.proofs.InTurn.{none_made, next_making, next_made, next_fails, all_in_turn}
use Rattle.tables_make.proofs.CallsInTurn.{both_keep_commit}
use Rattle.tables_make.proofs.Inside.{both_keep}
use Rattle.tables_make.specs.Commits.{KeepsInside}
use Rattle.tables_rows.proofs.Failed.{none_done}
use Rattle.tables_make.proofs.creation.all.Goals as goal

pub one-requires : goal.one-requires
one-requires g c clean =
    next_making c.args.tables.now c.tables.table-index c.tables-test.true _ _ (state g.S.Store c.tables.tx.conn.now)
    (c.tables.invariant.made clean)

pub tables-init : goal.tables-init
tables-init g c = record {
  same_reference = refl;
  made = λ clean. none_made c.args.tables.now (state g.S.Store c.args.tx.now.conn.now) (c.requires.making clean);
  kept = λ clean. record { was_open = λ up. up; committed = λ up. refl };
  survives = survives_none (state g.S.Store c.args.tx.now.conn.now);
}

pub tables-preserved : goal.tables-preserved
tables-preserved g c = record {
  same_reference = c.one.ensures.frame.same_reference ∙ c.tables.invariant.same_reference;
  made = λ clean.
      let before = c.tables.invariant.made (clean_before _ _ _ c.one.ensures.frame.survives clean) in
      next_made c.args.tables.now c.tables.table-index c.tables-test.true _ _ _ c.requires.distinct before
      (c.in_ok-one.ensures.done clean);
  kept = both_keep_commit _ _ _ c.tables.invariant.kept c.one.ensures.frame.kept c.one.ensures.frame.survives;
  survives = survives_both _ _ _ c.tables.invariant.survives c.one.ensures.frame.survives;
}

pub returns-in_err-one : goal.returns-in_err-one
returns-in_err-one g c = record {
  frame =
      let before : KeepsInside g.S.Store c.args.tx.now.conn c.tables.tx.conn =
      record {
        same_reference = c.tables.invariant.same_reference;
        kept = c.tables.invariant.kept;
        survives = c.tables.invariant.survives;
      } in
      both_keep g.S.Store c.args.tx.now.conn c.tables.tx.conn c.one.new.tx.conn before c.one.ensures.frame;
  done = λ clean. none_done c.from_residual.result _ _ c.from_residual.ensures.1;
  cause = λ clean.
      let before = c.tables.invariant.made (clean_before _ _ _ c.one.ensures.frame.survives clean) in
      passed_on c.from_residual.result _ _ c.from_residual.ensures.1
      (next_fails c.args.tables.now c.tables.table-index c.tables-test.true _ _ (state g.S.Store c.one.new.tx.conn.now)
      c.requires.distinct before c.tables.invariant.survives.counts _ (c.in_err-one.ensures.cause clean));
}

pub returns : goal.returns
returns g c = record {
  frame =
      record {
        same_reference = c.tables.invariant.same_reference;
        kept = c.tables.invariant.kept;
        survives = c.tables.invariant.survives;
      };
  done =
      λ clean. all_in_turn c.args.tables.now c.tables.table-index (state g.S.Store c.args.tx.now.conn.now)
      (state g.S.Store c.tables.tx.conn.now) (omega (arith, c.tables-test.false)) c.requires.some
      (c.tables.invariant.made clean);
  cause = λ clean. tt;
}
