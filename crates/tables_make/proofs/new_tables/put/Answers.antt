use Rattle.tables_sql.proofs.Steps.{clean_before}
use Rattle.tables_make.proofs.MakingTogether.{becomes}
use Rattle.tables_make.proofs.Settles.{puts}
use Rattle.tables_rows.proofs.Failed.{none_done}
use Rattle.tables_make.proofs.CallsInTurn.{refused_keeps}
use Rattle.tables_make.proofs.new_tables.put.Goals as goal

pub returns : goal.returns
returns g c = record {
  frame = record {
    same_reference = c.execute.ensures.same_reference;
    kept = λ clean. let ran =
        c.in_ok-execute.ensures.runs clean (c.requires (clean_before _ _ _ c.execute.ensures.survives clean)).mode in
        record { was_open = λ up. ran.1.was_open; committed = λ up. ran.1.committed_is };
    survives = c.execute.ensures.survives;
  };
  done = λ clean.
      let has = c.requires (clean_before _ _ _ c.execute.ensures.survives clean) in
      puts _ _ c.args.word.now c.args.value.now c.in_ok-execute.field-0 has
      (rw (c.params-to_sql.ensures, c.params-to_sql-2.ensures) at (c.in_ok-execute.ensures.runs clean has.mode));
  cause = λ clean. tt;
}

pub returns-in_err-execute : goal.returns-in_err-execute
returns-in_err-execute g c = record {
  frame = record {
    same_reference = c.execute.ensures.same_reference;
    kept =
        λ clean. refused_keeps _ _ _ _ _
        (c.in_err-execute.ensures.runs clean (c.requires (clean_before _ _ _ c.execute.ensures.survives clean)).mode);
    survives = c.execute.ensures.survives;
  };
  done = λ clean. none_done c.from_residual.result _ _ c.from_residual.ensures.1;
  cause = λ clean.
      let has = c.requires (clean_before _ _ _ c.execute.ensures.survives clean) in
      becomes c.from_residual.result _ _ c.from_residual.ensures.1
      (λ f is. (
        c.in_err-execute.field-0.0,
        is,
        rw (
          c.params-to_sql.ensures,
          c.params-to_sql-2.ensures,
        ) at (c.in_err-execute.ensures.runs clean has.mode),
      ));
}
