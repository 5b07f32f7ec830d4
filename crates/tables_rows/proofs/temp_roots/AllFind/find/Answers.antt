use Rattle.tables_schema.specs.Forms.{temp_root}
use Rattle.tables_rows.proofs.TempRootLemmas.{all}
use Rattle.tables_rows.proofs.Clauses.{reads_all, fails_to_read}
use Rattle.tables_rows.proofs.temp_roots.AllFind.find.Goals as goal

pub returns-clause-found : goal.returns-clause-found
returns-clause-found g c = record {
  frame = c.select.ensures.frame;
  reads =
      λ clean. reads_all all c.select.ensures.frame.survives c.requires.frame.ready c.requires.exists clean
      c.select.result (c.select.ensures.shown clean) (c.select.ensures.rises clean);
  cause =
      λ clean. fails_to_read all c.select.ensures.frame.survives c.requires.frame.ready c.requires.exists clean
      c.select.result (c.select.ensures.cause clean);
}

pub returns-clause-exists : goal.returns-clause-exists
returns-clause-exists g c = c.select.ensures.further temp_root c.requires.exists
