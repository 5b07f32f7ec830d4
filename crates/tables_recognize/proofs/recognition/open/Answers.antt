use Rattle.std.proofs.Common.{sym, subst, ◌∙◌}
use Rattle.tables_schema.specs.declared.recognition.Recognised.{Recognised}
use Rattle.tables_recognize.specs.Opened.{IsRecognised}
use Rattle.sqlite.specs.Held.{state}
use Rattle.tables_recognize.proofs.Opened.{found_none}
use Rattle.tables_recognize.proofs.ReadableRows.{if_ok}
use Rattle.tables_sql.proofs.TestFailures.{passed_on}
use Rattle.tables_recognize.proofs.Shown.{not_ok, not_found, fails_for}
use Rattle.tables_recognize.proofs.recognition.open.Goals as goal

pub inspect_tables-requires : goal.inspect_tables-requires
inspect_tables-requires g c =
    let found = c.recognise.ensures in
    record {
      frame =
          record {
            idle = c.requires.idle;
            settled = λ clean. c.is_autocommit-settled.ensures.settled c.if-prove.false;
          };
      sound = λ clean up. (found.live up).0;
      exists =
          λ clean up. subst (λ (r : Recognised). IsRecognised r c.args.conn.now.schema) c.in-Tables.is
          (record { nothing = found.nothing; first = found.first; second = found.second; third = found.third });
    }

pub returns-in-Tables-clause-nothing : goal.returns-in-Tables-clause-nothing
returns-in-Tables-clause-nothing g c =
    if_ok c.inspect_tables.result _ _
    (λ r some. (
      λ is. absurd (some is),
      λ none. absurd (let no = sym c.in-Tables.is ∙ c.recognise.ensures.nothing.1 none in cc),
    ))
    c.inspect_tables.ensures.some

pub probe-requires : goal.probe-requires
probe-requires g c =
    record { idle = c.requires.idle; settled = λ clean. c.is_autocommit-settled.ensures.settled c.if-prove.false }

pub returns-in_ok-probe-in_default-clause-found : goal.returns-in_ok-probe-in_default-clause-found
returns-in_ok-probe-in_default-clause-found g c =
    let old = state g.S.Store c.args.conn.now in
    let new = state g.S.Store c.probe.new.conn in
    let looks = c.probe.ensures.looks in
    let found = c.recognise.ensures in
    record {
      frame = looks.frame;
      unchanged = c.in_ok-probe-in_default.ensures.looks.unchanged;
      found = λ clean.
          let same = c.in_ok-probe-in_default.ensures.looks.unchanged clean in
          found_none c.recognise.result old new
          (record { nothing = found.nothing; first = found.first; second = found.second; third = found.third }) same
          (c.is_autocommit-settled.ensures.settled c.if-prove.false same.0.was_open) c.in_default.not-Tables;
      cause = λ _. tt;
    }

pub returns-in_err-probe-in_default-clause-found : goal.returns-in_err-probe-in_default-clause-found
returns-in_err-probe-in_default-clause-found g c = record {
  frame = c.probe.ensures.looks.frame;
  unchanged = λ _. not_ok c.from_residual.result _ _ c.from_residual.ensures.1;
  found = λ _. not_found c.from_residual.result _ _ c.from_residual.ensures.1;
  cause =
      λ clean. passed_on c.from_residual.result _ _ c.from_residual.ensures.1
      (fails_for (state g.S.Store c.args.conn.now) (state g.S.Store c.probe.new.conn) _
      c.in_err-probe-in_default.field-0.0 (c.in_err-probe-in_default.ensures.cause clean));
}
