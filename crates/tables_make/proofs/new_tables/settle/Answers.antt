use Rattle.sqlite.specs.Held.{state}
use Rattle.tables_sql.proofs.Steps.{clean_before}
use Rattle.tables_sql.proofs.TestFailures.{passed_on}
use Rattle.tables_sql.proofs.Scans.{on_ok, err_with}
use Rattle.tables_make.proofs.SettingFailures.{first_fails, second_fails}
use Rattle.tables_make.proofs.Settles.{has_meta, has_still, meta_made}
use Rattle.tables_make.proofs.Inside.{both_keep}
use Rattle.tables_rows.proofs.Failed.{none_done}
use Rattle.std.proofs.Common.{[], ◌∷◌, arith}
use Rattle.tables_schema.specs.Forms.{meta}
use Rattle.tables_make.proofs.MakingTogether.{fails_wider}
use Rattle.tables_make.proofs.new_tables.settle.Goals as goal

pub put-requires : goal.put-requires
put-requires g c clean =
    let made = c.in_ok-one.ensures.done clean in
    has_meta _ _ ((c.requires (clean_before _ _ _ c.one.ensures.frame.survives clean)).free made.was_open).0 made

pub put-requires-2 : goal.put-requires-2
put-requires-2 g c clean =
    let second = clean_before _ _ _ c.put.ensures.frame.survives clean in
    let made = c.in_ok-one.ensures.done second in
    has_still _ _ _ _ (has_meta _ _
    ((c.requires (clean_before _ _ _ c.one.ensures.frame.survives second)).free made.was_open).0 made)
    (rw c.text.ensures at c.in_ok-put.ensures.done clean)

pub returns : goal.returns
returns g c = record {
  frame =
      both_keep g.S.Store c.args.tx.now.conn c.put.new.tx.conn c.put-2.new.tx.conn
      (both_keep g.S.Store c.args.tx.now.conn c.one.new.tx.conn c.put.new.tx.conn c.one.ensures.frame
      c.put.ensures.frame) c.put-2.ensures.frame;
  done = λ clean.
      let third = clean_before _ _ _ c.put-2.ensures.frame.survives clean in
      let second = clean_before _ _ _ c.put.ensures.frame.survives third in
      let made = c.in_ok-one.ensures.done second in
      let free = ((c.requires (clean_before _ _ _ c.one.ensures.frame.survives second)).free made.was_open).0 in
      on_ok c.put-2.result _ _ (λ last. meta_made c.args.store_dir.now _ _ _ _ free made
      (rw c.text.ensures at c.in_ok-put.ensures.done third) last) (c.put-2.ensures.done clean);
  cause = λ clean.
      let third = clean_before _ _ _ c.put-2.ensures.frame.survives clean in
      let second = clean_before _ _ _ c.put.ensures.frame.survives third in
      let made = c.in_ok-one.ensures.done second in
      let under = c.requires (clean_before _ _ _ c.one.ensures.frame.survives second) in
      err_with c.put-2.result _ _
      (second_fails _ (under.free made.was_open).0 (under.sound made.was_open) _ made
      c.one.ensures.frame.survives.counts c.one.ensures.frame.survives.limit c.args.store_dir.now _
      (state g.S.Store c.put-2.new.tx.conn.now)
      (rw c.text.ensures at c.in_ok-put.ensures.done third) c.put.ensures.frame.survives.counts
      c.put.ensures.frame.survives.limit) (c.put-2.ensures.cause clean);
}

pub returns-in_err-put : goal.returns-in_err-put
returns-in_err-put g c = record {
  frame =
      both_keep g.S.Store c.args.tx.now.conn c.one.new.tx.conn c.put.new.tx.conn c.one.ensures.frame
      c.put.ensures.frame;
  done = λ clean. none_done c.from_residual-in_err-put.result _ _ c.from_residual-in_err-put.ensures.1;
  cause = λ clean.
      let second = clean_before _ _ _ c.put.ensures.frame.survives clean in
      let made = c.in_ok-one.ensures.done second in
      let under = c.requires (clean_before _ _ _ c.one.ensures.frame.survives second) in
      passed_on c.from_residual-in_err-put.result _ _ c.from_residual-in_err-put.ensures.1
      (first_fails _ (under.free made.was_open).0 (under.sound made.was_open) _ made c.one.ensures.frame.survives.counts
      c.one.ensures.frame.survives.limit c.args.store_dir.now
      (state g.S.Store c.put.new.tx.conn.now) _ (rw c.text.ensures at c.in_err-put.ensures.cause clean));
}

pub returns-in_err-one : goal.returns-in_err-one
returns-in_err-one g c = record {
  frame = c.one.ensures.frame;
  done = λ clean. none_done c.from_residual.result _ _ c.from_residual.ensures.1;
  cause =
      λ clean. passed_on c.from_residual.result _ _ c.from_residual.ensures.1
      (fails_wider ⊥ ⊥ (state g.S.Store c.args.tx.now.conn.now) (state g.S.Store c.one.new.tx.conn.now)
      (state g.S.Store c.one.new.tx.conn.now) _ _ (λ no. absurd no) (λ no. absurd no) (meta ∷ []) [] (omega arith) _
      (c.in_err-one.ensures.cause clean));
}
