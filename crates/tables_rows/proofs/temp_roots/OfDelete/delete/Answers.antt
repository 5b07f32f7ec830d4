use Rattle.std.proofs.Common.{pos}
use Rattle.tables_rows.proofs.TempRootLemmas.{removal}
use Rattle.tables_rows.proofs.Clauses.{takes, takes_number, fails_to_take}
use Rattle.tables_rows.proofs.temp_roots.OfDelete.delete.Goals as goal

pub returns : goal.returns
returns g c = record {
  frame = c.remove.ensures.frame;
  done =
      λ clean. takes (removal c.args.self.now.owner.now (pos c.args.self.now.session)) c.remove.ensures.frame.survives
      c.requires.under c.requires.exists clean c.remove.result
      (rw (c.params-to_sql.ensures, c.params-to_sql-2.ensures) at (c.remove.ensures.ran clean));
  numbers =
      λ clean. takes_number (removal c.args.self.now.owner.now (pos c.args.self.now.session))
      c.remove.ensures.frame.survives c.requires.under c.requires.exists clean c.remove.result
      (rw (c.params-to_sql.ensures, c.params-to_sql-2.ensures) at (c.remove.ensures.ran clean));
  cause =
      λ clean. fails_to_take (removal c.args.self.now.owner.now (pos c.args.self.now.session))
      c.remove.ensures.frame.survives c.requires.under c.requires.exists clean c.remove.result
      (rw (c.params-to_sql.ensures, c.params-to_sql-2.ensures) at (c.remove.ensures.cause clean));
}
