use Rattle.std.proofs.Common.{subst, pos}
use Rattle.std.specs.Prelude.{IsUtf8}
use Rattle.tables_rows.proofs.TempRootLemmas.{addition}
use Rattle.tables_rows.proofs.Clauses.{puts, puts_new, puts_number, fails_to_put}
use Rattle.tables_rows.proofs.temp_roots.RowInsert.insert.Goals as goal

pub returns : goal.returns
returns g c = record {
  frame = c.add.ensures.frame;
  done =
      λ clean. puts (addition c.args.self.now.owner.now (pos c.args.self.now.session) c.args.self.now.target.now)
      c.add.ensures.frame.survives c.requires.under c.requires.exists clean c.add.result (
        subst IsUtf8 c.as_bytes-owner.ensures.value c.as_bytes-owner.ensures.utf8,
        (tt, (subst IsUtf8 c.as_bytes-target.ensures.value c.as_bytes-target.ensures.utf8, tt)),
      )
      (rw (c.params-to_sql.ensures, c.params-to_sql-2.ensures, c.params-to_sql-3.ensures) at (c.add.ensures.ran clean));
  new =
      λ clean. puts_new (addition c.args.self.now.owner.now (pos c.args.self.now.session) c.args.self.now.target.now)
      c.add.ensures.frame.survives c.requires.under c.requires.exists clean c.add.result (
        subst IsUtf8 c.as_bytes-owner.ensures.value c.as_bytes-owner.ensures.utf8,
        (tt, (subst IsUtf8 c.as_bytes-target.ensures.value c.as_bytes-target.ensures.utf8, tt)),
      )
      (rw (c.params-to_sql.ensures, c.params-to_sql-2.ensures, c.params-to_sql-3.ensures) at (c.add.ensures.ran clean));
  numbers =
      λ clean. puts_number (addition c.args.self.now.owner.now (pos c.args.self.now.session) c.args.self.now.target.now)
      c.add.ensures.frame.survives c.requires.under c.requires.exists clean c.add.result
      (rw (c.params-to_sql.ensures, c.params-to_sql-2.ensures, c.params-to_sql-3.ensures) at (c.add.ensures.ran clean));
  cause =
      λ clean. fails_to_put (addition c.args.self.now.owner.now (pos c.args.self.now.session)
      c.args.self.now.target.now) c.add.ensures.frame.survives c.requires.under c.requires.exists clean c.add.result
      (rw (
        c.params-to_sql.ensures,
        c.params-to_sql-2.ensures,
        c.params-to_sql-3.ensures,
      ) at (c.add.ensures.cause clean));
}
