use Rattle.std.proofs.Common.{pos}
use Rattle.tables_rows.proofs.TempRootLemmas.{removal_one}
use Rattle.tables_rows.proofs.Clauses.{takes, takes_number, fails_to_take}
use Rattle.tables_rows.proofs.temp_roots.RowDelete.delete.Goals as goal

pub returns : goal.returns
returns g c = record {
  frame = c.remove.ensures.frame;
  done =
      λ clean. takes (removal_one c.args.self.now.owner.now (pos c.args.self.now.session) c.args.self.now.target.now)
      c.remove.ensures.frame.survives c.requires.under c.requires.exists clean c.remove.result
      (rw (
        c.params-to_sql.ensures,
        c.params-to_sql-2.ensures,
        c.params-to_sql-3.ensures,
      ) at (c.remove.ensures.ran clean));
  numbers =
      λ clean. takes_number (removal_one c.args.self.now.owner.now (pos c.args.self.now.session)
      c.args.self.now.target.now) c.remove.ensures.frame.survives c.requires.under c.requires.exists clean
      c.remove.result (rw (
        c.params-to_sql.ensures,
        c.params-to_sql-2.ensures,
        c.params-to_sql-3.ensures,
      ) at (c.remove.ensures.ran clean));
  cause =
      λ clean. fails_to_take (removal_one c.args.self.now.owner.now (pos c.args.self.now.session)
      c.args.self.now.target.now) c.remove.ensures.frame.survives c.requires.under c.requires.exists clean
      c.remove.result (rw (
        c.params-to_sql.ensures,
        c.params-to_sql-2.ensures,
        c.params-to_sql-3.ensures,
      ) at (c.remove.ensures.cause clean));
}
