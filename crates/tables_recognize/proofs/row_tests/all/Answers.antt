use Rattle.std.proofs.Common.{get_or, sym, subst}
use Rattle.tables_sql.proofs.Lists.{one_left}
use Rattle.tables_sql.proofs.TestFailures.{passed_on, survives_both}
use Rattle.tables_schema.specs.declared.store_table.StoreTable.TheVariants.{Meta}
use Rattle.tables_recognize.specs.Tables.{HasOwnRowids, HasReadableTexts}
use Rattle.tables_recognize.proofs.OneAfterAnother.{all_tested, next_tested, next_fails}
use Rattle.std.specs.List.{AllByRecursion}
use Rattle.sqlite_trees.proofs.ListLemmas.{all-get_or}
use Rattle.tables_schema.specs.Intact.{IsIntact}
use Rattle.tables_schema.specs.StoreTables.{form}
use Rattle.sqlite.specs.Effect.{Database, IsDatabase}
use Rattle.sqlite.specs.Held.{state}
use Rattle.tables_recognize.proofs.Shown.{settled_then, shown_then, not_found}
use Rattle.tables_recognize.proofs.row_tests.all.Goals as goal
use Rattle.tables_sql.proofs.Steps.{clean_before}

pub tables-preserved : goal.tables-preserved
tables-preserved g c =
    let tables = c.args.tables.now in
    let at = c.tables.table-index in
    record {
      idle = c.one.ensures.frame.idle;
      tested = λ clean.
          let before = c.tables.invariant.tested (clean_before _ _ _ c.one.ensures.frame.survives clean) in
          next_tested HasOwnRowids HasReadableTexts tables _ at _ _ c.tables.readable (get_or tables at Meta)
          (one_left tables at Meta c.tables-test.true) before c.in_ok-readable.field-0
          (c.in_ok-readable.ensures.reported clean);
      survives = survives_both _ _ _ c.tables.invariant.survives c.one.ensures.frame.survives;
    }

pub one-requires : goal.one-requires
one-requires g c =
    let a = state g.S.Store c.args.conn.now in
    let b = state g.S.Store c.tables.conn in
    record {
      frame = record {
        idle = c.tables.invariant.idle;
        settled =
            λ clean. settled_then a b (c.requires.frame.frame.settled
            (clean_before a b _ c.tables.invariant.survives clean)) (c.tables.invariant.tested clean).kept;
      };
      sound = λ clean up.
          let kept = (c.tables.invariant.tested clean).kept in
          subst IsDatabase (sym (kept.now up))
          (c.requires.frame.sound (clean_before a b _ c.tables.invariant.survives clean) (kept.was_open up));
      exists = λ clean up.
          let kept = (c.tables.invariant.tested clean).kept in
          all-get_or (λ t. IsIntact c.tables.conn.schema (form t)) c.args.tables.now c.tables.table-index Meta
          (subst (λ (d : Database). AllByRecursion (λ t. IsIntact d.schema (form t)) c.args.tables.now)
          (sym (kept.now up)) (c.requires.frame.exists (clean_before a b _ c.tables.invariant.survives clean)
          (kept.was_open up)))
          c.tables-test.true;
    }

pub returns-in_err-readable : goal.returns-in_err-readable
returns-in_err-readable g c =
    let a = state g.S.Store c.args.conn.now in
    let b = state g.S.Store c.tables.conn in
    let d = state g.S.Store c.one.new.conn in
    let tables = c.args.tables.now in
    let at = c.tables.table-index in
    record {
      frame = record {
        idle = c.one.ensures.frame.idle;
        same =
            λ clean. shown_then a b d (c.tables.invariant.tested
            (clean_before b d _ c.one.ensures.frame.survives clean)).kept (c.one.ensures.frame.same clean);
        survives = survives_both a b d c.tables.invariant.survives c.one.ensures.frame.survives;
      };
      reported = λ _. not_found c.from_residual.result _ _ c.from_residual.ensures.1;
      cause = λ clean.
          let before = c.tables.invariant.tested (clean_before _ _ _ c.one.ensures.frame.survives clean) in
          passed_on c.from_residual.result _ _ c.from_residual.ensures.1
          (next_fails HasOwnRowids HasReadableTexts tables _ at _ _ c.tables.readable (get_or tables at Meta)
          (one_left tables at Meta c.tables-test.true) before c.tables.invariant.survives
          c.one.ensures.frame.survives clean c.in_err-readable.field-0.0
          (c.in_err-readable.ensures.cause clean));
    }

pub returns : goal.returns
returns g c = record {
  frame = record {
    idle = c.tables.invariant.idle;
    same = λ clean. (c.tables.invariant.tested clean).kept;
    survives = c.tables.invariant.survives;
  };
  reported =
      λ clean. all_tested HasOwnRowids HasReadableTexts c.args.tables.now _ c.tables.table-index _ c.tables.readable
      c.requires.some c.tables-test.false (c.tables.invariant.tested clean);
  cause = λ _. tt;
}
