use Rattle.tables_rows.proofs.ProfileLemmas.{all}
use Rattle.tables_rows.proofs.Clauses.{reads_all, fails_to_read}
use Rattle.tables_rows.proofs.profiles.AllFind.find.Goals as goal

pub returns-clause-found : goal.returns-clause-found
returns-clause-found g c = record {
  frame = c.select.ensures.frame;
  reads =
      λ clean. reads_all all c.select.ensures.frame.survives c.requires.frame.ready (λ early up. tt) clean
      c.select.result (c.select.ensures.shown clean) (c.select.ensures.rises clean);
  cause =
      λ clean. fails_to_read all c.select.ensures.frame.survives c.requires.frame.ready (λ early up. tt) clean
      c.select.result (c.select.ensures.cause clean);
}
