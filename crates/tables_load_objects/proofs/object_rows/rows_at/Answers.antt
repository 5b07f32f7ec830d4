use Rattle.std.proofs.Common.{[], subst}
use Rattle.sqlite.specs.State.{HasCleanDisk}
use Rattle.sqlite.specs.Held.{state}
use Rattle.tables_sql.specs.Contents.{contents_of}
use Rattle.tables_rows.specs.Entries.{IsStored}
use Rattle.tables_rows.proofs.Several.{left_then, several_failed, finds_failed, reads_then}
use Rattle.tables_load_objects.proofs.ReadRows.{clean_before, from_after, rows_read}
use Rattle.tables_load_objects.proofs.object_rows.rows_at.Goals as goal

pub pieces_of-requires : goal.pieces_of-requires
pieces_of-requires g c =
    from_after c.args.source.now c.args.ahead.now.items [] c.args.conn.now c.object_at.new.conn
    c.object_at.ensures.frame (λ clean. (c.in_ok-object.ensures.reads clean).0) c.requires (λ _. tt)

pub returns-in_err-object : goal.returns-in_err-object
returns-in_err-object g c =
    finds_failed _ _ c.from_residual.result _ _ c.from_residual.ensures.1
    (several_failed _ _ _ _ c.from_residual.ensures.1 c.object_at.ensures.frame c.in_err-object.ensures.cause)

pub returns-in_default : goal.returns-in_default
returns-in_default g c = record {
  frame = c.object_at.ensures.frame;
  reads = λ clean.
      let read = c.in_ok-object.ensures.reads clean in (
        read.0,
        (
          subst (IsStored (contents_of (state g.S.Store c.args.conn.now).now).objects c.args.base.now)
              c.in_default.is read.1.0,
          read.1.1,
        ),
      );
  cause = λ _. tt;
}

pub returns-in_err-pieces : goal.returns-in_err-pieces
returns-in_err-pieces g c =
    finds_failed _ _ c.from_residual-in_err-pieces.result _ _ c.from_residual-in_err-pieces.ensures.1
    (reads_then c.args.conn.now c.object_at.new.conn c.pieces_of.new.conn _ c.object_at.ensures.frame
    (λ clean. (c.in_ok-object.ensures.reads clean).0)
    (several_failed _ _ _ _ c.from_residual-in_err-pieces.ensures.1 c.pieces_of.ensures.frame
    c.in_err-pieces.ensures.cause))

pub returns : goal.returns
returns g c =
    let s0 = state g.S.Store c.args.conn.now in
    let s1 = state g.S.Store c.object_at.new.conn in
    let s2 = state g.S.Store c.pieces_of.new.conn in
    record {
      frame = left_then _ _ _ c.object_at.ensures.frame c.pieces_of.ensures.frame;
      reads = λ clean.
          let clean1 : HasCleanDisk s1 = clean_before s1 s2 (λ _. ⊥) c.pieces_of.ensures.frame.survives clean in
          let first = c.in_ok-object.ensures.reads clean1 in
          let read =
          rows_read s0 s1 s2 c.args.base.now (record { object = c.in-Some.object; pieces = c.in_ok-pieces.pieces })
          c.in_ok-object.field-0 c.in-Some.is (first.0, first.1.0)
          (c.in_ok-pieces.ensures.reads clean) in
          (read.0, (read.1, first.1.1));
      cause = λ _. tt;
    }
