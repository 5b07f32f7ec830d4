use Rattle.sqlite.specs.Held.{state}
use Rattle.tables_sql.specs.Contents.{contents_of}
use Rattle.tables_writes.proofs.Covered.{keyless, no_references}
use Rattle.tables_writes.proofs.Transactions.{changes_nothing}
use Rattle.tables_rows.proofs.Reasons.{as_reason, removal_reason}
use Rattle.std.proofs.Common.{refl}
use Rattle.tables_sql.proofs.Rowids.{numbers_on_none}
use Rattle.tables_sql.proofs.Transactions.{survives_none}
use Rattle.tables_writes.proofs.removal.delete_references.Goals as goal

-- the object has none, and so there is no row
pub returns-then-is_empty : goal.returns-then-is_empty
returns-then-is_empty g c = record {
  frame =
      record {
        same_reference = refl;
        failed = λ clean. tt;
        survives = survives_none (state g.S.Store c.args.tx.now.conn.now);
      };
  done = λ clean.
      let s = state g.S.Store c.args.tx.now.conn.now in
      changes_nothing s _ (c.requires.under_way clean) (c.requires.is_open clean)
      (no_references (contents_of s.now) c.args.base.now
      (λ r present. keyless c.args.object.now.references (λ e. e.0) c.references.result.now c.references.ensures
      c.if-is_empty.ensures r (c.requires.fits clean r present)));
  numbers = λ clean. numbers_on_none (state g.S.Store c.args.tx.now.conn.now).now;
  cause = λ clean. tt;
}

pub returns : goal.returns
returns g c = record {
  frame = c.delete.ensures.frame;
  done = c.delete.ensures.done;
  numbers = c.delete.ensures.numbers;
  cause =
      λ clean. as_reason _ _ (removal_reason _ (state g.S.Store c.args.tx.now.conn.now)
      (state g.S.Store c.delete.new.tx.conn.now)) c.delete.result (c.delete.ensures.cause clean);
}
