use Rattle.std.proofs.Common.{◌<◌, arith, refl}
use Rattle.sqlite.specs.Held.{state}
use Rattle.tables_sql.specs.Contents.{contents_of}
use Rattle.tables_world.specs.Pieces.{piece_size}
use Rattle.tables_writes.proofs.Covered.{no_pieces}
use Rattle.tables_writes.proofs.Cuts.{size_is}
use Rattle.tables_writes.proofs.Transactions.{changes_nothing}
use Rattle.tables_rows.proofs.Reasons.{as_reason, removal_reason}
use Rattle.tables_sql.proofs.Rowids.{numbers_on_none}
use Rattle.tables_sql.proofs.Transactions.{survives_none}
use Rattle.tables_writes.proofs.removal.delete_pieces.Goals as goal

-- the row holds the whole archive, and so there is no piece
pub returns-then-size-le-PIECE_SIZE : goal.returns-then-size-le-PIECE_SIZE
returns-then-size-le-PIECE_SIZE g c = record {
  frame =
      record {
        same_reference = refl;
        failed = λ clean. tt;
        survives = survives_none (state g.S.Store c.args.tx.now.conn.now);
      };
  done = λ clean.
      let s = state g.S.Store c.args.tx.now.conn.now in
      changes_nothing s _ (c.requires.under_way clean) (c.requires.is_open clean)
      (no_pieces (contents_of s.now) c.args.base.now
      (λ n present. let longer : piece_size < c.args.object.now.size = c.requires.fits clean n present in
      omega (arith, longer, size_is, c.size.ensures, c.if-size-le-PIECE_SIZE.true)));
  numbers = λ clean. numbers_on_none (state g.S.Store c.args.tx.now.conn.now).now;
  cause = λ clean. tt;
}

pub returns : goal.returns
returns g c = record {
  frame = c.delete.ensures.frame;
  done = c.delete.ensures.done;
  numbers = c.delete.ensures.numbers;
  cause =
      λ clean. as_reason _ _ (removal_reason _ (state g.S.Store c.args.tx.now.conn.now)
      (state g.S.Store c.delete.new.tx.conn.now)) c.delete.result (c.delete.ensures.cause clean);
}
