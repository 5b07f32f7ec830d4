use Rattle.std.proofs.Common.{refl}
use Rattle.std.proofs.lemmas.Result.{err_from_is_err_and}
use Rattle.std.specs.FinMap as finite
use Rattle.paths.specs.Root.{bytes_cmp, Set}
use Rattle.model.specs.World.{Path, pair_cmp}
use Rattle.tables_writes.proofs.AfterWrites.{write_agrees, write_commits, write_fails, failure_seen}
use Rattle.tables_writes.proofs.RootChanges.{roots_write}
use Rattle.tables_sql.proofs.TestFailures.{passed_on}
use Rattle.tables_rows.specs.Reasons.{NoRow}
use Rattle.tables_writes.proofs.tables.Tables.drop_permanent.Goals as goal

pub returns-in_err-commit : goal.returns-in_err-commit
returns-in_err-commit g c = record {
  frame =
      let p = err_from_is_err_and c.from_residual.result c.from_residual.ensures.1 in
      rw (p.1, p.2) (write_fails g.S.Store
      (roots_write (λ (m : finite.FinMap bytes_cmp Path). finite.remove m c.args.name.now)
      (λ (m : finite.FinMap pair_cmp Path). m) (λ (m : Set pair_cmp). m) g.S.Store _ c.args.self.now
      c.self.view_is c.self.invariant c.requires.sound) c.commit.new.conn c.self.inside.outline _
      (c.in_err-commit.ensures.frame)
      (refl) _);
  cause =
      λ clean. passed_on c.from_residual.result _ _ c.from_residual.ensures.1
      (failure_seen g.S.Store c.commit.new.conn NoRow _ c.self.view_is c.in_err-commit.ensures.cause clean);
}

pub invariant_of-self-2 : goal.invariant_of-self-2
invariant_of-self-2 g c =
    write_agrees g.S.Store (roots_write (λ (m : finite.FinMap bytes_cmp Path). finite.remove m c.args.name.now)
    (λ (m : finite.FinMap pair_cmp Path). m) (λ (m : Set pair_cmp). m) g.S.Store _ c.args.self.now c.self.view_is
    c.self.invariant c.requires.sound) c.commit.new.conn c.drop_permanent.new.self _
    (c.in_ok-commit.ensures.frame)
    (c.drop_permanent.ensures)

pub returns : goal.returns
returns g c = record {
  frame =
      write_commits g.S.Store (roots_write (λ (m : finite.FinMap bytes_cmp Path). finite.remove m c.args.name.now)
      (λ (m : finite.FinMap pair_cmp Path). m) (λ (m : Set pair_cmp). m) g.S.Store _ c.args.self.now
      c.self.view_is c.self.invariant c.requires.sound) c.commit.new.conn c.drop_permanent.new.self _
      (c.in_ok-commit.ensures.frame)
      (c.drop_permanent.ensures) _;
  cause = λ clean. tt;
}
