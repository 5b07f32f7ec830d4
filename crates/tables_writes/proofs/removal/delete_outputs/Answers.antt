use Rattle.sqlite.specs.Held.{state}
use Rattle.tables_sql.specs.Contents.{contents_of}
use Rattle.tables_writes.proofs.Covered.{keyless, no_outputs}
use Rattle.tables_writes.proofs.Transactions.{changes_nothing}
use Rattle.tables_rows.proofs.Reasons.{as_reason, removal_reason}
use Rattle.std.proofs.Common.{refl}
use Rattle.tables_sql.proofs.Rowids.{numbers_on_none}
use Rattle.tables_sql.proofs.Transactions.{survives_none}
use Rattle.tables_writes.proofs.removal.delete_outputs.Goals as goal

-- the object has none, and so there is no row
pub returns-then-is_empty : goal.returns-then-is_empty
returns-then-is_empty g c = record {
  frame =
      record {
        same_reference = refl;
        failed = λ clean. tt;
        survives = survives_none (state g.S.Store c.args.tx.now.conn.now);
      };
  done = λ clean.
      let s = state g.S.Store c.args.tx.now.conn.now in
      changes_nothing s _ (c.requires.under_way clean) (c.requires.is_open clean)
      (no_outputs (contents_of s.now) c.args.base.now
      (λ name present. keyless c.args.object.now.outputs (λ e. e.1) c.outputs.result.now c.outputs.ensures
      c.if-is_empty.ensures name (c.requires.fits clean name present)));
  numbers = λ clean. numbers_on_none (state g.S.Store c.args.tx.now.conn.now).now;
  cause = λ clean. tt;
}

pub returns : goal.returns
returns g c = record {
  frame = c.delete.ensures.frame;
  done = c.delete.ensures.done;
  numbers = c.delete.ensures.numbers;
  cause =
      λ clean. as_reason _ _ (removal_reason _ (state g.S.Store c.args.tx.now.conn.now)
      (state g.S.Store c.delete.new.tx.conn.now)) c.delete.result (c.delete.ensures.cause clean);
}
