use Rattle.std.proofs.Common.{subst}
use Rattle.sqlite.specs.Effect.{Database}
use Rattle.sqlite.specs.Held.{state}
use Rattle.sqlite.proofs.Callers.{unchanged_then}
use Rattle.tables_sql.specs.Contents.{contents_of}
use Rattle.tables_rows.specs.Entries.{IsStored}
use Rattle.tables_rows.proofs.Several.{left_then, finds_failed, one_failed, reads_then, several_failed}
use Rattle.tables_load_objects.proofs.Ahead.{found_so}
use Rattle.tables_load_objects.proofs.ReadRows.{clean_before}
use Rattle.tables_load_objects.proofs.rows_ahead.object_at.Goals as goal

pub returns-in_err-fill : goal.returns-in_err-fill
returns-in_err-fill g c =
    finds_failed _ _ c.from_residual.result _ _ c.from_residual.ensures.1
    (several_failed _ _ _ _ c.from_residual.ensures.1 c.fill.ensures.frame c.in_err-fill.ensures.cause)

pub returns-in-Some : goal.returns-in-Some
returns-in-Some g c = record {
  frame = c.fill.ensures.frame;
  reads = λ clean.
      let read = c.in_ok-fill.ensures.reads clean in
      let x = contents_of (state g.S.Store c.args.conn.now).now in (
        read.0,
        (
          found_so x c.args.base.now c.next_of.result c.in-Some.object c.in-Some.is
              (c.next_of.ensures.found x read.1),
          c.next_of.ensures.left x read.1,
        ),
      );
  cause = λ _. tt;
}

pub get-requires : goal.get-requires
get-requires g c = record { frame = record { idle = c.fill.ensures.frame.idle; ready = c.fill.ensures.frame.ready } }

pub returns-in_err-alone : goal.returns-in_err-alone
returns-in_err-alone g c =
    finds_failed _ _ c.from_residual-in_err-alone.result _ _ c.from_residual-in_err-alone.ensures.1
    (reads_then c.args.conn.now c.fill.new.conn c.get.new.conn _ c.fill.ensures.frame
    (λ clean. (c.in_ok-fill.ensures.reads clean).0)
    (one_failed _ _ _ _ c.from_residual-in_err-alone.ensures.1 c.get.ensures.frame c.in_err-alone.ensures.cause))

pub returns : goal.returns
returns g c =
    let s0 = state g.S.Store c.args.conn.now in
    let s1 = state g.S.Store c.fill.new.conn in
    let s2 = state g.S.Store c.get.new.conn in
    record {
      frame = left_then _ _ _ c.fill.ensures.frame c.get.ensures.frame;
      reads = λ clean.
          let first = c.in_ok-fill.ensures.reads (clean_before s1 s2 (λ _. ⊥) c.get.ensures.frame.survives clean) in
          let second = c.in_ok-alone.ensures.reads clean in (
            unchanged_then s0 s1 s2 first.0 second.0,
            (
              subst (λ (d : Database). IsStored (contents_of d).objects c.args.base.now c.in_ok-alone.alone)
                  first.0.0.now_is second.1,
              c.next_of.ensures.left (contents_of s0.now) first.1,
            ),
          );
      cause = λ _. tt;
    }
