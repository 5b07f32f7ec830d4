use Rattle.tables_rows.proofs.ObjectLemmas.{of}
use Rattle.tables_rows.proofs.Clauses.{reads, fails_to_read}
use Rattle.tables_rows.proofs.objects.OfFind.find.Goals as goal

pub returns-clause-found : goal.returns-clause-found
returns-clause-found g c = record {
  frame = c.select.ensures.frame;
  reads =
      λ clean. reads (of c.args.self.now.base.now) c.select.ensures.frame.survives c.requires.frame.ready
      (λ early up. tt) clean c.select.result (rw c.params-to_sql.ensures at (c.select.ensures.shown clean))
      (c.select.ensures.rises clean);
  cause =
      λ clean. fails_to_read (of c.args.self.now.base.now) c.select.ensures.frame.survives c.requires.frame.ready
      (λ early up. tt) clean c.select.result (rw c.params-to_sql.ensures at (c.select.ensures.cause clean));
}
