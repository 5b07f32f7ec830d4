use Rattle.std.proofs.Common.{sym, ap, subst, arith, ◌∙◌}
use Rattle.std.specs.Ordering.{eq_by_cmp}
use Rattle.std.specs.FinMap as finite
use Rattle.sqlite.specs.Effect.{Database}
use Rattle.sqlite.specs.State.{HasCleanDisk}
use Rattle.sqlite.specs.Held.{state}
use Rattle.sqlite.proofs.Callers.{unchanged_then}
use Rattle.paths.specs.Root.{bytes_cmp}
use Rattle.tables_schema.specs.Forms.{piece}
use Rattle.tables_sql.specs.Calls.{HasFurther}
use Rattle.tables_sql.specs.Contents.{contents_of}
use Rattle.tables_rows.specs.Entries.{IsStored, stored_of}
use Rattle.tables_writes.proofs.ReadArchives.{none_read, all_read, row_read}
use Rattle.tables_rows.proofs.Several.{finds_failed, left_then, memory_failed, one_failed, reads_then}
use Rattle.tables_writes.proofs.archives.read_archive.Goals as goal

pub find-requires-clause-exists : goal.find-requires-clause-exists
find-requires-clause-exists g c clean is_open =
    let shown = c.get.ensures.frame.same clean in
    let early : HasCleanDisk (state g.S.Store c.args.conn.now) =
    omega (arith, c.get.ensures.frame.survives.clean, clean) in
    subst (λ (d : Database). HasFurther d piece) (sym (shown.now is_open))
    (c.requires.tables early (shown.was_open is_open)).0

pub returns-in_default : goal.returns-in_default
returns-in_default g c = record {
  frame = c.get.ensures.frame;
  reads = λ clean.
      let present = contents_of (state g.S.Store c.args.conn.now).now in
      let read = c.in_ok-found.ensures.reads clean in (
        read.0,
        none_read present c.args.base.now
            (subst (IsStored present.objects c.args.base.now) c.in_default.is read.1),
      );
  cause = λ clean. tt;
}

pub returns : goal.returns
returns g c = record {
  frame = left_then _ _ _ c.get.ensures.frame c.find.ensures.found.frame;
  reads = λ clean.
      let base = c.args.base.now in
      let s0 = state g.S.Store c.args.conn.now in
      let s1 = state g.S.Store c.get.new.conn in
      let s2 = state g.S.Store c.find.new.conn in
      let early : HasCleanDisk s1 = omega (arith, c.find.ensures.found.frame.survives.clean, clean) in
      let first = c.in_ok-found.ensures.reads early in
      let next = c.in_ok-further.ensures.found.reads clean in
      let stored = subst (IsStored (contents_of s0.now).objects base) c.in-Some.is first.1 in
      let listed =
      next.1 ∙ ap (λ (d : Database). finite.entries
      (finite.retain_keys (contents_of d).pieces (λ k. eq_by_cmp bytes_cmp k.0 base))) first.0.0.now_is in (
        unchanged_then s0 s1 s2 first.0 next.0,
        all_read (contents_of s0.now) base c.in-Some.object c.in_ok-further.further.items c.in_ok-nar-2.nar stored.1
            listed c.in_ok-nar-2.ensures,
      );
  cause = λ clean. tt;
}

-- one row holds all of it
pub returns-then-size-le-PIECE_SIZE : goal.returns-then-size-le-PIECE_SIZE
returns-then-size-le-PIECE_SIZE g c = record {
  frame = c.get.ensures.frame;
  reads = λ clean.
      let base = c.args.base.now in
      let s0 = state g.S.Store c.args.conn.now in
      let present = contents_of s0.now in
      let early : HasCleanDisk s0 = omega (arith, c.get.ensures.frame.survives.clean, clean) in
      let first = c.in_ok-found.ensures.reads clean in
      let stored = subst (IsStored present.objects base) c.in-Some.is first.1 in
      let object = (stored_of c.in-Some.object).1 in
      let held = (c.requires.tables early first.0.0.was_open).1 in (
        first.0,
        row_read present base c.in-Some.object c.args.size c.new.result.items c.in_ok-nar.nar stored.1
            (held.cut object stored.1) (held.sized object stored.1) (omega arith)
            c.new.ensures.items c.in_ok-nar.ensures,
      );
  cause = λ clean. tt;
}

-- ---- an error

pub returns-in_err-found : goal.returns-in_err-found
returns-in_err-found g c =
    finds_failed _ _ c.from_residual.result _ _ c.from_residual.ensures.1
    (one_failed _ _ c.from_residual.result _ c.from_residual.ensures.1 c.get.ensures.frame
    c.in_err-found.ensures.cause)

pub returns-in_err-nar : goal.returns-in_err-nar
returns-in_err-nar g c =
    let r = c.from_residual-in_err-nar.result in
    finds_failed _ _ r _ _ c.from_residual-in_err-nar.ensures.1
    (memory_failed _ _ r c.from_residual-in_err-nar.ensures.1 c.get.ensures.frame)

pub returns-in_err-further : goal.returns-in_err-further
returns-in_err-further g c =
    let r = c.from_residual-in_err-further.result in
    finds_failed _ _ r _ _ c.from_residual-in_err-further.ensures.1
    (reads_then _ _ _ r c.get.ensures.frame (λ clean. (c.in_ok-found.ensures.reads clean).0)
    (one_failed _ _ r _ c.from_residual-in_err-further.ensures.1 c.find.ensures.found.frame
    c.in_err-further.ensures.found.cause))

pub returns-in_err-nar-2 : goal.returns-in_err-nar-2
returns-in_err-nar-2 g c =
    let r = c.from_residual-in_err-nar-2.result in
    finds_failed _ _ r _ _ c.from_residual-in_err-nar-2.ensures.1
    (memory_failed _ _ r c.from_residual-in_err-nar-2.ensures.1
    (left_then _ _ _ c.get.ensures.frame c.find.ensures.found.frame))
