use Rattle.std.proofs.Common.{◌∙◌}
use Rattle.sqlite.specs.Held.{state}
use Rattle.sqlite.specs.Values.{bound}
use Rattle.sqlite.proofs.InsideLemmas.{keeps_then}
use Rattle.sqlite.proofs.StateLemmas.{survives_then}
use Rattle.tables_sql.proofs.Scans.{unchanged_keeps, on_err_of, not_ok}
use Rattle.tables_sql.proofs.Sizes.{size_exists, size_dropped}
use Rattle.tables_sql.proofs.Steps.{clean_before}
use Rattle.tables_sql.proofs.TestFailures.{passed_on}
use Rattle.tables_sql.proofs.statement.add.Goals as goal

pub returns-in_ok-ask : goal.returns-in_ok-ask
returns-in_ok-ask g c =
    let wrote = c.in-Err.ensures.frame in
    let asked = c.ask.ensures.frame in
    record {
      frame = record {
        same_reference = asked.same_reference ∙ wrote.same_reference;
        failed =
            λ clean. keeps_then _ _ _ (wrote.failed (clean_before _ _ _ asked.survives clean))
            (unchanged_keeps _ _ (c.in_ok-ask.ensures.same clean));
        survives =
            survives_then _ _ _ (λ _. ⊥) (λ _. ⊥) (λ _. ⊥) (λ _ db no. no) (λ _ db no. no) wrote.survives
            asked.survives;
      };
      ran = λ _. tt;
      cause = λ clean.
          let size = rw c.in-Size.is at (c.in-Err.ensures.cause (clean_before _ _ _ asked.survives clean)) in
          rw c.in-Size.is (size_exists (state g.S.Store c.args.tx.now.conn.now) _ _ c.args.text.now
          (bound c.args.params.now) size (c.in_ok-ask.ensures.same clean));
    }

pub returns-in_err-ask : goal.returns-in_err-ask
returns-in_err-ask g c =
    let wrote = c.in-Err.ensures.frame in
    let asked = c.ask.ensures.frame in
    let failure = c.in_err-ask.field-0.0 in
    record {
      frame = record {
        same_reference = asked.same_reference ∙ wrote.same_reference;
        failed =
            λ clean. on_err_of c.from_residual.result _
            (keeps_then _ _ _ (wrote.failed (clean_before _ _ _ asked.survives clean))
            (c.in_err-ask.ensures.frame.failed clean));
        survives =
            survives_then _ _ _ (λ _. ⊥) (λ _. ⊥) (λ _. ⊥) (λ _ db no. no) (λ _ db no. no) wrote.survives
            asked.survives;
      };
      ran = λ _. not_ok c.from_residual.result _ _ c.from_residual.ensures.1;
      cause = λ clean.
          let size = rw c.in-Size.is at (c.in-Err.ensures.cause (clean_before _ _ _ asked.survives clean)) in
          passed_on c.from_residual.result failure _ c.from_residual.ensures.1
          (size_dropped _ _ _ c.args.text.now (bound c.args.params.now) size wrote.survives asked.survives clean
          failure (c.in_err-ask.ensures.cause clean));
    }
