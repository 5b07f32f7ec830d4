use Rattle.sqlite.specs.Held.{state}
use Rattle.tables_sql.proofs.Scans.{failed_keeps, on_ok, on_err_of, err_with}
use Rattle.tables_sql.proofs.Probing.{ask_same, ask_stopped, ask_failed}
use Rattle.tables_sql.proofs.statement.ask.Goals as goal

pub returns-in-Err-clause-frame : goal.returns-in-Err-clause-frame
returns-in-Err-clause-frame g c = record {
  same_reference = c.in-Err.ensures.same_reference;
  failed = λ clean. on_err_of c.unless_stopped.result _ (failed_keeps _ _ _ _ _ (c.in-Err.ensures.err clean));
  survives = c.in-Err.ensures.survives;
}

pub returns-in-Err-clause-same : goal.returns-in-Err-clause-same
returns-in-Err-clause-same g c clean =
    on_ok c.unless_stopped.result _ _ (λ stopped. ask_stopped _ _ _ stopped (c.in-Err.ensures.err clean))
    c.unless_stopped.ensures.stopped

pub returns-in-Err-clause-cause : goal.returns-in-Err-clause-cause
returns-in-Err-clause-cause g c clean =
    err_with c.unless_stopped.result _ _ (λ f is. ask_failed _ _ _ f is (c.in-Err.ensures.err clean))
    c.unless_stopped.ensures.failed

pub returns-clause-same : goal.returns-clause-same
returns-clause-same g c clean =
    ask_same (state g.S.Store c.args.tx.now.conn.now) (state g.S.Store c.query_all.new.self.conn.now) _
    (c.in_default.ensures.ok clean)
