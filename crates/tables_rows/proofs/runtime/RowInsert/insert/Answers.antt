use Rattle.std.proofs.Common.{subst}
use Rattle.std.specs.Prelude.{IsUtf8}
use Rattle.tables_rows.proofs.RuntimeRootLemmas.{addition}
use Rattle.tables_rows.proofs.Clauses.{puts, puts_new, puts_number, fails_to_put}
use Rattle.tables_rows.proofs.runtime.RowInsert.insert.Goals as goal

pub returns : goal.returns
returns g c = record {
  frame = c.add.ensures.frame;
  done =
      λ clean. puts (addition c.args.self.now.label.now c.args.self.now.target.now) c.add.ensures.frame.survives
      c.requires.under (λ early up. tt) clean c.add.result (
        subst IsUtf8 c.as_bytes-label.ensures.value c.as_bytes-label.ensures.utf8,
        (subst IsUtf8 c.as_bytes-target.ensures.value c.as_bytes-target.ensures.utf8, tt),
      )
      (rw (c.params-to_sql.ensures, c.params-to_sql-2.ensures) at (c.add.ensures.ran clean));
  new =
      λ clean. puts_new (addition c.args.self.now.label.now c.args.self.now.target.now) c.add.ensures.frame.survives
      c.requires.under (λ early up. tt) clean c.add.result (
        subst IsUtf8 c.as_bytes-label.ensures.value c.as_bytes-label.ensures.utf8,
        (subst IsUtf8 c.as_bytes-target.ensures.value c.as_bytes-target.ensures.utf8, tt),
      )
      (rw (c.params-to_sql.ensures, c.params-to_sql-2.ensures) at (c.add.ensures.ran clean));
  numbers =
      λ clean. puts_number (addition c.args.self.now.label.now c.args.self.now.target.now) c.add.ensures.frame.survives
      c.requires.under (λ early up. tt) clean c.add.result
      (rw (c.params-to_sql.ensures, c.params-to_sql-2.ensures) at (c.add.ensures.ran clean));
  cause =
      λ clean. fails_to_put (addition c.args.self.now.label.now c.args.self.now.target.now) c.add.ensures.frame.survives
      c.requires.under (λ early up. tt) clean c.add.result
      (rw (c.params-to_sql.ensures, c.params-to_sql-2.ensures) at (c.add.ensures.cause clean));
}
