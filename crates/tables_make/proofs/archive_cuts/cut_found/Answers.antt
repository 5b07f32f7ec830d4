use Rattle.std.proofs.Common.{refl, sym, subst, arith, ◌≤◌, ◌<◌, cond, length}
use Rattle.std.proofs.lemmas.Bool.{lt-ltb}
use Rattle.sqlite.specs.Held.{state}
use Rattle.tables_sql.specs.Contents.{Stored, contents_of}
use Rattle.tables_sql.specs.Rowids.{NumbersOn}
use Rattle.tables_sql.proofs.Scans.{on_ok}
use Rattle.tables_sql.proofs.Steps.{changes_none, clean_before}
use Rattle.tables_sql.proofs.Transactions.{survives_none}
use Rattle.tables_rows.specs.Entries.{stored_of}
use Rattle.model.specs.World.{Path}
use Rattle.tables_world.specs.Pieces.{piece_size}
use Rattle.tables_make.specs.Migrating.{CutRows, LongRows}
use Rattle.tables_rows.specs.Reasons.{Rows, NoRow, IsReason}
use Rattle.tables_make.proofs.Cuts.{size}
use Rattle.tables_make.proofs.Grown.{on_done}
use Rattle.tables_rows.proofs.Reasons.{left_whole, as_reason, numbers_of}
use Rattle.tables_make.proofs.Steps.{changes_at, short_cut, long_cut}
use Rattle.tables_make.proofs.archive_cuts.cut_found.Goals as goal

-- the rows of an archive that is so long
as_long : (P : Rows → Type 0) (p : Path) (o : Stored) → piece_size < length o.nar → P (CutRows p o) → P (LongRows p o)
as_long P p o long = subst (λ b. P (cond b (CutRows p o) NoRow)) (sym (lt-ltb piece_size (length o.nar) long))

pub returns-then-len-gt-PIECE_SIZE : goal.returns-then-len-gt-PIECE_SIZE
returns-then-len-gt-PIECE_SIZE g c = record {
  frame = c.put_cut.ensures.frame;
  done = λ clean.
      let a = state g.S.Store c.args.tx.now.conn.now in
      let b = state g.S.Store c.put_cut.new.tx.conn.now in
      let it = stored_of c.args.object.now in
      on_done c.put_cut.result _ _ (changes_at a b _ _
      (long_cut it.0 it.0 it.1 (contents_of a.now) refl
      ((c.requires.fits (clean_before a b _ c.put_cut.ensures.frame.survives clean)).present)))
      (c.put_cut.ensures.done clean);
  numbers = λ clean.
      let a = state g.S.Store c.args.tx.now.conn.now in
      let b = state g.S.Store c.put_cut.new.tx.conn.now in
      let it = stored_of c.args.object.now in
      let long : piece_size < length it.1.nar = omega (arith, size) in
      on_ok c.put_cut.result _ _ (as_long (λ rows. NumbersOn rows.count a.now b.now) it.0 it.1 long)
      (c.put_cut.ensures.numbers clean);
  cause = λ clean.
      let it = stored_of c.args.object.now in
      let long : piece_size < length it.1.nar = omega (arith, size) in
      let a = state g.S.Store c.args.tx.now.conn.now in
      let b = state g.S.Store c.put_cut.new.tx.conn.now in
      as_reason _ _ (λ f. as_long (λ rows. IsReason rows a b f) it.0 it.1 long) c.put_cut.result
      (c.put_cut.ensures.cause clean);
}

pub returns-else-len-gt-PIECE_SIZE : goal.returns-else-len-gt-PIECE_SIZE
returns-else-len-gt-PIECE_SIZE g c = record {
  frame =
      record {
        same_reference = refl;
        failed = λ clean. tt;
        survives = survives_none (state g.S.Store c.args.tx.now.conn.now);
      };
  done = λ clean.
      let a = state g.S.Store c.args.tx.now.conn.now in
      let it = stored_of c.args.object.now in
      let short : length it.1.nar ≤ 65536 = omega arith in
      changes_at a a (λ x. x) _ (short_cut it.0 it.1 (contents_of a.now) short (c.requires.fits clean).present)
      (changes_none a (c.requires.under_way clean) (c.requires.is_open clean));
  numbers = λ clean.
      let db = (state g.S.Store c.args.tx.now.conn.now).now in
      let rows = LongRows (stored_of c.args.object.now).0 (stored_of c.args.object.now).1 in
      numbers_of rows rows db db (left_whole rows db);
  cause = λ clean. tt;
}

pub put_cut-requires-clause-frame : goal.put_cut-requires-clause-frame
put_cut-requires-clause-frame g c =
    let long : piece_size < length (stored_of c.args.object.now).1.nar = omega (arith, size) in
    record {
      under_way = c.requires.under_way;
      is_open = c.requires.is_open;
      exists = c.requires.exists;
      fits = λ clean. (c.requires.fits clean).free long;
    }
