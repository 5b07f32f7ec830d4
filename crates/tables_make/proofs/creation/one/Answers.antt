use Rattle.tables_sql.proofs.Scans.{on_ok, err_with}
use Rattle.tables_sql.proofs.Steps.{clean_before}
use Rattle.tables_make.proofs.InTurn.{one_made, one_fails}
use Rattle.tables_make.proofs.creation.one.Goals as goal

pub returns : goal.returns
returns g c = record {
  frame = c.create.ensures.frame;
  done = λ clean.
      let under = c.requires (clean_before _ _ _ c.create.ensures.frame.survives clean) in
      on_ok c.create.result _ _ (λ ran. one_made c.args.table _ _ ran.0 under (rw c.text.ensures at ran.1))
      (c.create.ensures.done clean);
  cause = λ clean.
      let under = c.requires (clean_before _ _ _ c.create.ensures.frame.survives clean) in
      err_with c.create.result _ _ (λ f h. one_fails c.args.table _ _ under f (rw c.text.ensures at h))
      (c.create.ensures.cause clean);
}
