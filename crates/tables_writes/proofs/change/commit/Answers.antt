use Rattle.std.proofs.Common.{◌≡◌, subst, rules, arith}
use Rattle.sqlite.specs.Effect.{Database}
use Rattle.sqlite.specs.State.{HasCleanDisk}
use Rattle.sqlite.specs.Held.{state}
use Rattle.tables_sql.specs.Contents.{contents_of}
use Rattle.tables_sql.specs.Calls.{IsWhole, IsCommitted}
use Rattle.tables_sql.proofs.Scans.{on_ok}
use Rattle.tables_sql.proofs.Steps.{under_after}
use Rattle.tables_sql.proofs.Transactions.{survives_all}
use Rattle.tables_rows.specs.Reasons.{HasReason}
use Rattle.tables_writes.specs.Writes.{CommitsRows}
use Rattle.tables_writes.specs.TablesValue.{IsWritten}
use Rattle.tables_writes.proofs.Begun.{always_done, begun_has, undone}
use Rattle.tables_sql.proofs.TestFailures.{passed_on}
use Rattle.tables_rows.proofs.Reasons.{as_reason, begun_reason, commit_reason, later_reason}
use Rattle.tables_writes.proofs.Transactions.{others_kept, written}
use Rattle.tables_writes.proofs.change.commit.Goals as goal

pub write-requires-clause-whole : goal.write-requires-clause-whole
write-requires-clause-whole g c =
    begun_has g.S.Store c.args.conn.now c.begin-tx.result.conn.now IsWhole c.begin-tx.ensures.begun c.requires.whole

pub write-requires-clause-fits : goal.write-requires-clause-fits
write-requires-clause-fits g c =
    begun_has g.S.Store c.args.conn.now c.begin-tx.result.conn.now
    (λ (x : Database). g.C.Change.fits c.args.change.now (contents_of x)) c.begin-tx.ensures.begun c.requires.fits

pub commit-requires : goal.commit-requires
commit-requires g c clean =
    under_after (state g.S.Store c.begin-tx.result.conn.now) (state g.S.Store c.write.new.tx.conn.now) _
    (c.in_ok-write.ensures.done clean)

pub returns-clause-frame : goal.returns-clause-frame
returns-clause-frame g c =
    let f = g.C.Change.change c.args.change.now in
    let before = c.args.conn.now in
    let old = state g.S.Store before in
    let start = c.begin-tx.result.conn.now in
    let wrote = state g.S.Store c.write.new.tx.conn.now in
    let new = state g.S.Store c.commit.new.tx.0 in
    let same : c.commit.new.tx.0 ≡ c.conn-2-1.given.0 = search rules in
    let is = c.begin-tx.ensures.begun in
    let done = c.in_ok-write.ensures.done in
    let all =
    survives_all g.S.Store before start wrote new f is c.begin-tx.ensures.under_way done
    c.write.ensures.frame.survives c.commit.ensures.survives in
    let whole : HasCleanDisk new → IsCommitted wrote new → IsWritten old new f =
    λ clean k. written g.S.Store before start wrote new f _ is done c.write.ensures.frame.survives
    c.commit.ensures.survives c.requires.whole clean k in
    subst (λ h. CommitsRows g.S.Store before h c.commit.result f) same (record {
      idle = c.commit.ensures.ended;
      done = λ clean. on_ok c.commit.result _ _ (whole clean) (c.commit.ensures.done clean);
      others =
          λ clean. on_ok c.commit.result _ _ (λ k. others_kept old new f _ all c.requires.ready clean (whole clean k))
          (c.commit.ensures.done clean);
      failed =
          λ clean. undone g.S.Store before start wrote new _ _ c.commit.result is done c.write.ensures.frame.survives
          c.commit.ensures.survives c.requires.ready clean (c.commit.ensures.failed clean);
      durable = always_done c.commit.result _ c.commit.ensures.durable;
      was_open =
          λ clean. on_ok c.commit.result _ _ (λ k. ((whole clean k).was_open, (whole clean k).is_open))
          (c.commit.ensures.done clean);
      survives = all;
    })

pub returns-clause-cause : goal.returns-clause-cause
returns-clause-cause g c =
    let rows = g.C.Change.rows c.args.change.now in
    let before = c.args.conn.now in
    let start = c.begin-tx.result.conn.now in
    let wrote = state g.S.Store c.write.new.tx.conn.now in
    let new = state g.S.Store c.commit.new.tx.0 in
    let same : c.commit.new.tx.0 ≡ c.conn-2-1.given.0 = search rules in
    subst (λ h. HasReason g.S.Store before h c.commit.result rows) same
    (λ clean.
    let late : HasCleanDisk wrote = omega (arith, c.commit.ensures.survives.clean, clean) in
    as_reason _ _ (λ e h. begun_reason g.S.Store before start rows new c.begin-tx.ensures.begun e
    (commit_reason rows (state g.S.Store start) wrote new _ (c.in_ok-write.ensures.done late)
    c.write.ensures.frame.survives e h)) c.commit.result (c.commit.ensures.cause clean))

pub returns-in_err-write-clause-cause : goal.returns-in_err-write-clause-cause
returns-in_err-write-clause-cause g c =
    let rows = g.C.Change.rows c.args.change.now in
    let before = c.args.conn.now in
    let start = c.begin-tx.result.conn.now in
    let wrote = state g.S.Store c.write.new.tx.conn.now in
    let new = state g.S.Store c.drop-tx.new.self.0 in
    let same : c.drop-tx.new.self.0 ≡ c.conn-1.given.0 = search rules in
    subst (λ h. HasReason g.S.Store before h c.from_residual.result rows) same
    (λ clean.
    let late : HasCleanDisk wrote = omega (arith, c.drop-tx.ensures.survives.clean, clean) in
    passed_on c.from_residual.result _ _ c.from_residual.ensures.1
    (begun_reason g.S.Store before start rows new c.begin-tx.ensures.begun _
    (later_reason rows (state g.S.Store start) wrote new _ c.drop-tx.ensures.survives _
    (c.in_err-write.ensures.cause late))))
