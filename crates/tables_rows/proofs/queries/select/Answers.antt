use Rattle.tables_rows.proofs.Clauses.{shows_same, still_ready, still_exists}
use Rattle.tables_rows.proofs.queries.select.Goals as goal

pub returns-clause-frame : goal.returns-clause-frame
returns-clause-frame g c = record {
  idle = c.select.ensures.idle c.requires.frame.idle;
  same = shows_same c.select.ensures.survives c.requires.frame.ready c.select.ensures.same;
  ready = still_ready c.select.ensures.survives c.requires.frame.ready c.select.ensures.same;
  survives = c.select.ensures.survives;
}

pub returns-clause-further : goal.returns-clause-further
returns-clause-further g c t exists clean =
    still_exists c.select.ensures.survives c.requires.frame.ready c.select.ensures.same clean t exists
