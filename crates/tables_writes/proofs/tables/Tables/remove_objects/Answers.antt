use Rattle.std.proofs.Common.{refl}
use Rattle.std.proofs.lemmas.Result.{err_from_is_err_and}
use Rattle.tables_writes.proofs.Covered.{covered}
use Rattle.tables_writes.proofs.AfterWrites.{write_agrees, write_commits, write_fails, failure_seen}
use Rattle.tables_writes.proofs.RemovedObjects.{removed_write}
use Rattle.tables_sql.proofs.TestFailures.{passed_on}
use Rattle.tables_rows.specs.Reasons.{NoRow}
use Rattle.tables_writes.proofs.tables.Tables.remove_objects.Goals as goal

pub delete_rows-requires : goal.delete_rows-requires
delete_rows-requires g c = record {
  idle = c.self.invariant.idle;
  ready = λ clean up. (c.self.invariant.rows clean up).ready;
  whole = λ clean up. (c.self.invariant.rows clean up).whole;
  fits = λ clean up. let it =
      c.self.invariant.rows clean up in covered c.self.inside.dir _ c.self.inside.outline it.sound it.same;
}

pub returns-in_err-delete_rows : goal.returns-in_err-delete_rows
returns-in_err-delete_rows g c = record {
  frame =
      let p = err_from_is_err_and c.from_residual.result c.from_residual.ensures.1 in
      rw (p.1, p.2) (write_fails g.S.Store
      (removed_write g.S.Store _ c.args.self.now c.args.paths.now c.self.view_is c.self.invariant
      c.requires.sound) c.delete_rows.new.conn c.self.inside.outline _ (c.in_err-delete_rows.ensures.frame)
      (refl) _);
  cause =
      λ clean. passed_on c.from_residual.result _ _ c.from_residual.ensures.1
      (failure_seen g.S.Store c.delete_rows.new.conn NoRow _ c.self.view_is c.in_err-delete_rows.ensures.cause clean);
}

pub invariant_of-self-2 : goal.invariant_of-self-2
invariant_of-self-2 g c =
    write_agrees g.S.Store (removed_write g.S.Store _ c.args.self.now c.args.paths.now c.self.view_is c.self.invariant
    c.requires.sound) c.delete_rows.new.conn c.remove_objects.new.self _ (c.in_ok-delete_rows.ensures.frame)
    (c.remove_objects.ensures)

pub returns : goal.returns
returns g c = record {
  frame =
      write_commits g.S.Store (removed_write g.S.Store _ c.args.self.now c.args.paths.now c.self.view_is
      c.self.invariant c.requires.sound) c.delete_rows.new.conn c.remove_objects.new.self _
      (c.in_ok-delete_rows.ensures.frame)
      (c.remove_objects.ensures) _;
  cause = λ clean. tt;
}
