use Rattle.std.proofs.Common.{[], refl}
use Rattle.sqlite.specs.Held.{state}
use Rattle.tables_sql.proofs.TestFailures.{passed_on}
use Rattle.tables_sql.proofs.RowByRow.{commits_nothing, unchanged_before, failed_before}
use Rattle.tables_sql.proofs.Probing.{text, reads, ask_fails, ask_same}
use Rattle.tables_recognize.proofs.Shown.{not_ok}
use Rattle.tables_recognize.proofs.recognition.probe.Goals as goal
use Rattle.tables_sql.proofs.Steps.{clean_before}

pub returns-in_err-query_all-clause-cause : goal.returns-in_err-query_all-clause-cause
returns-in_err-query_all-clause-cause g c clean =
    passed_on c.from_residual.result _ _ c.from_residual.ensures.1
    (ask_fails (state g.S.Store c.args.conn.now) (state g.S.Store c.query_all.new.self) _
    (c.in_err-query_all.field-0.0, refl, c.in_err-query_all.ensures.err clean))

pub returns-in_err-query_all-clause-looks : goal.returns-in_err-query_all-clause-looks
returns-in_err-query_all-clause-looks g c = record {
  frame = record {
    idle = c.query_all.ensures.mode c.requires.idle;
    same =
        λ clean. failed_before text [] reads _ _
        (c.requires.settled (clean_before _ _ _ c.query_all.ensures.survives clean)) c.in_err-query_all.field-0.0
        (c.in_err-query_all.ensures.err clean);
    survives = commits_nothing text [] reads _ _ c.query_all.ensures.survives;
  };
  unchanged = λ _. not_ok c.from_residual.result _ _ c.from_residual.ensures.1;
}

pub returns-clause-looks : goal.returns-clause-looks
returns-clause-looks g c =
    record {
      frame = record {
        idle = c.query_all.ensures.mode c.requires.idle;
        same = λ clean. unchanged_before _ _ (ask_same _ _ _ (c.in_ok-query_all.ensures.ok clean));
        survives = commits_nothing text [] reads _ _ c.query_all.ensures.survives;
      };
      unchanged = λ clean. ask_same _ _ _ (c.in_ok-query_all.ensures.ok clean);
    }
