use Rattle.std.proofs.Common.{sym, subst}
use Rattle.sqlite.specs.Held.{state}
use Rattle.tables_sql.specs.Contents.{contents_of}
use Rattle.tables_rows.specs.Ranges.{is_between}
use Rattle.tables_rows.proofs.Several.{finds_failed, one_failed}
use Rattle.tables_load_objects.specs.Rows.{AreStored}
use Rattle.tables_load_objects.proofs.Ahead.{stored_all}
use Rattle.tables_load_objects.proofs.Each.{no_change}
use Rattle.tables_load_objects.proofs.ReadRows.{as_it_was}
use Rattle.tables_load_objects.proofs.rows_ahead.fill.Goals as goal

pub returns-then-not-is_empty : goal.returns-then-not-is_empty
returns-then-not-is_empty g c = record {
  frame = as_it_was c.args.conn.now c.requires.frame c.requires.opened;
  reads = λ clean. (no_change (state g.S.Store c.args.conn.now) (c.requires.opened clean), c.requires.ahead clean);
  cause = λ _. tt;
}

pub returns-in_err-found : goal.returns-in_err-found
returns-in_err-found g c =
    finds_failed _ _ c.from_residual.result _ _ c.from_residual.ensures.1
    (one_failed _ _ _ _ c.from_residual.ensures.1 c.find.ensures.found.frame c.in_err-found.ensures.found.cause)

pub returns : goal.returns
returns g c = record {
  frame = c.find.ensures.found.frame;
  reads = λ clean.
      let read = c.in_ok-found.ensures.found.reads clean in
      let x = contents_of (state g.S.Store c.args.conn.now).now in (
        read.0,
        subst (AreStored x) (sym c.from_vec.ensures.items)
            (stored_all x (is_between c.args.base.now c.last_with-last.result.now) c.in_ok-found.found.items read.1),
      );
  cause = λ _. tt;
}
