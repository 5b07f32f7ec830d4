use Rattle.tables_rows.proofs.Ranges.{between}
use Rattle.tables_rows.proofs.Clauses.{reads, fails_to_read}
use Rattle.tables_rows.proofs.objects.BetweenFind.find.Goals as goal

pub returns-clause-found : goal.returns-clause-found
returns-clause-found g c = record {
  frame = c.select.ensures.frame;
  reads =
      λ clean. reads (between c.args.self.now.first.now c.args.self.now.last.now) c.select.ensures.frame.survives
      c.requires.frame.ready (λ early up. tt) clean c.select.result
      (rw (c.params-to_sql.ensures, c.params-to_sql-2.ensures) at (c.select.ensures.shown clean))
      (c.select.ensures.rises clean);
  cause =
      λ clean. fails_to_read (between c.args.self.now.first.now c.args.self.now.last.now)
      c.select.ensures.frame.survives c.requires.frame.ready (λ early up. tt) clean c.select.result
      (rw (c.params-to_sql.ensures, c.params-to_sql-2.ensures) at (c.select.ensures.cause clean));
}
