use Rattle.tables_rows.proofs.ObjectLemmas.{of}
use Rattle.tables_rows.proofs.Unsettled.{selects_within, fails_within}
use Rattle.tables_rows.proofs.object_within.of_within.Goals as goal

pub returns : goal.returns
returns g c = record {
  frame = c.select.ensures.frame;
  reads =
      λ clean. selects_within (of c.args.base.now) c.select.ensures.frame.survives c.requires (λ early up. tt) clean
      c.select.result (rw c.params-to_sql.ensures at (c.select.ensures.shown clean)) c.select.ensures.rises;
  cause =
      λ clean. fails_within (of c.args.base.now) c.select.ensures.frame.survives c.requires (λ early up. tt) clean
      c.select.result (rw c.params-to_sql.ensures at (c.select.ensures.cause clean));
}
