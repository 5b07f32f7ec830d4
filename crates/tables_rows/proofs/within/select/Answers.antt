use Rattle.std.proofs.Common.{rules}
use Rattle.tables_sql.specs.Reading.{IsAmiss}
use Rattle.tables_sql.proofs.Scans.{failed_keeps, unchanged_keeps}
use Rattle.tables_rows.proofs.Unsettled.{answered, never_late, shown_all, amiss_some, always}
use Rattle.tables_rows.proofs.within.select.Goals as goal

pub returns-in_err-rows-clause-cause : goal.returns-in_err-rows-clause-cause
returns-in_err-rows-clause-cause g c clean = let why =
    never_late _ _ c.requires _ _ _ (c.in_err-rows.ensures.err clean) in search (rules, why)

pub returns-in_err-rows-clause-frame : goal.returns-in_err-rows-clause-frame
returns-in_err-rows-clause-frame g c = record {
  same_reference = c.in_err-rows.ensures.same_reference;
  failed = λ clean. always c.from_residual.result _ (failed_keeps _ _ _ _ _ (c.in_err-rows.ensures.err clean));
  survives = c.in_err-rows.ensures.survives;
}

pub returns-clause-shown : goal.returns-clause-shown
returns-clause-shown g c clean =
    shown_all _ _ c.requires g.T.Entry.is_shown _ _ _ c.entries.result
    (rw (← c.as_slice.ensures.value) at (c.in_ok-rows.ensures.ok clean)) c.entries.ensures.shown

pub returns-clause-cause : goal.returns-clause-cause
returns-clause-cause g c clean =
    amiss_some _ _ c.requires (IsAmiss g.T.Entry.is_legible g.T.Entry.is_shown g.T.Entry.is_below) _ _ _
    c.entries.result (rw (← c.as_slice.ensures.value) at (c.in_ok-rows.ensures.ok clean)) c.entries.ensures.cause

pub returns-clause-frame : goal.returns-clause-frame
returns-clause-frame g c = record {
  same_reference = c.in_ok-rows.ensures.same_reference;
  failed =
      λ clean. always c.entries.result _
      (unchanged_keeps _ _ (answered _ _ c.requires _ _ _ (c.in_ok-rows.ensures.ok clean)).1.1);
  survives = c.in_ok-rows.ensures.survives;
}
