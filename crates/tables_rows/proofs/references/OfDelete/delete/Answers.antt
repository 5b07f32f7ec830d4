use Rattle.tables_rows.proofs.ReferenceLemmas.{removal}
use Rattle.tables_rows.proofs.Clauses.{takes, takes_number, fails_to_take}
use Rattle.tables_rows.proofs.references.OfDelete.delete.Goals as goal

pub returns : goal.returns
returns g c = record {
  frame = c.remove.ensures.frame;
  done =
      λ clean. takes (removal c.args.self.now.base.now) c.remove.ensures.frame.survives c.requires.under
      (λ early up. tt) clean c.remove.result (rw c.params-to_sql.ensures at (c.remove.ensures.ran clean));
  numbers =
      λ clean. takes_number (removal c.args.self.now.base.now) c.remove.ensures.frame.survives c.requires.under
      (λ early up. tt) clean c.remove.result (rw c.params-to_sql.ensures at (c.remove.ensures.ran clean));
  cause =
      λ clean. fails_to_take (removal c.args.self.now.base.now) c.remove.ensures.frame.survives c.requires.under
      (λ early up. tt) clean c.remove.result (rw c.params-to_sql.ensures at (c.remove.ensures.cause clean));
}
