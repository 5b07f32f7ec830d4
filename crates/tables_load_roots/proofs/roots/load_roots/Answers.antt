use Rattle.std.proofs.Common.{sym, ap, subst, ◌∙◌, arith}
use Rattle.sqlite.specs.Effect.{Database}
use Rattle.sqlite.specs.State.{HasCleanDisk}
use Rattle.sqlite.specs.Held.{state}
use Rattle.tables_schema.specs.Forms.{temp_root}
use Rattle.tables_sql.specs.Calls.{HasFurther}
use Rattle.tables_sql.specs.Contents.{contents_of}
use Rattle.tables_world.specs.Worlds.{world_in}
use Rattle.tables_outline.specs.Outline.{OutlineValue}
use Rattle.tables_load_roots.specs.Loaded.{with_explicit, are_temporary}
use Rattle.tables_load_roots.proofs.TwoReads.{read_next}
use Rattle.tables_load_roots.proofs.Sessions.{none_kept}
use Rattle.tables_load_roots.proofs.AllReads.{roots_decide, all_unsound, all_read, sessions_reported}
use Rattle.tables_rows.proofs.Several.{several_failed, reads_done, reads_then}
use Rattle.tables_load_roots.proofs.roots.load_roots.Goals as goal

pub load_explicit-requires : goal.load_explicit-requires
load_explicit-requires g c = record {
  frame = c.requires.frame;
  fits = λ clean. record {
    permanent = c.requires.permanent clean;
    user_roots = c.requires.user_roots clean;
    profiles = c.requires.profiles clean;
    runtime = c.requires.runtime clean;
  };
}

pub load_table-requires-clause-exists : goal.load_table-requires-clause-exists
load_table-requires-clause-exists g c clean is_open =
    let early : HasCleanDisk (state g.S.Store c.args.conn.now) =
    omega (arith, c.load_explicit.ensures.read.frame.survives.clean) in
    let remaining = (c.in_ok-load_explicit.ensures.read.unchanged clean).0 in
    subst (λ (d : Database). HasFurther d temp_root) (sym remaining.now_is)
    (c.requires.exists early (sym c.has_temporary.ensures ∙ c.if-not-has_temporary.false) remaining.was_open)

pub load_table-requires-clause-roots : goal.load_table-requires-clause-roots
load_table-requires-clause-roots g c =
    let left = c.load_explicit.ensures.read.frame in
    record {
      frame = record { idle = left.idle; ready = left.ready };
      fits =
          λ clean. ap (λ (o : OutlineValue). o.temporary)
          (c.in_ok-load_explicit.ensures.loaded clean c.if-not-branch.false)
          ∙ c.requires.temporary (omega (arith, left.survives.clean, clean));
    }

pub returns-then-not-branch-clause-reported : goal.returns-then-not-branch-clause-reported
returns-then-not-branch-clause-reported g c clean =
    all_unsound c.args.outline.now.objects (contents_of (state g.S.Store c.args.conn.now).now)
    c.in_ok-load_explicit.field-0 c.if-not-branch.true
    (roots_decide _ _ _ (c.in_ok-load_explicit.ensures.reported clean))

pub returns-then-not-has_temporary-clause-reported : goal.returns-then-not-has_temporary-clause-reported
returns-then-not-has_temporary-clause-reported g c clean =
    let early : HasCleanDisk (state g.S.Store c.args.conn.now) =
    omega (arith, c.load_explicit.ensures.read.frame.survives.clean) in
    let none =
    c.requires.no_table early (sym c.has_temporary.ensures ∙ c.if-not-has_temporary.true)
    (c.in_ok-load_explicit.ensures.read.unchanged clean).0.was_open in
    all_read c.args.outline.now.objects (contents_of (state g.S.Store c.args.conn.now).now)
    c.in_ok-load_explicit.field-0 c.if-not-branch.false none
    (roots_decide _ _ _ (c.in_ok-load_explicit.ensures.reported clean))

pub returns-then-not-has_temporary-clause-loaded : goal.returns-then-not-has_temporary-clause-loaded
returns-then-not-has_temporary-clause-loaded g c clean ok =
    let early : HasCleanDisk (state g.S.Store c.args.conn.now) =
    omega (arith, c.load_explicit.ensures.read.frame.survives.clean) in
    let x = contents_of (state g.S.Store c.args.conn.now).now in
    let old : OutlineValue = c.args.outline.now in
    let none =
    c.requires.no_table early (sym c.has_temporary.ensures ∙ c.if-not-has_temporary.true)
    (c.in_ok-load_explicit.ensures.read.unchanged clean).0.was_open in
    c.in_ok-load_explicit.ensures.loaded clean c.if-not-branch.false
    ∙ ap (λ t. record (with_explicit old x) { temporary = t }) (c.requires.temporary early ∙ sym (none_kept x none))

pub returns-clause-reported : goal.returns-clause-reported
returns-clause-reported g c clean =
    let a = state g.S.Store c.args.conn.now in
    let b = state g.S.Store c.load_explicit.new.conn in
    let middle : HasCleanDisk b = omega (arith, c.load_table.ensures.read.frame.survives.clean) in
    let same = (c.in_ok-load_explicit.ensures.read.unchanged middle).0.now_is in
    let outline = c.in_ok-load_explicit.ensures.loaded middle c.if-not-branch.false in
    sessions_reported c.args.outline.now.objects (contents_of a.now) c.load_table.result c.in_ok-load_explicit.field-0
    c.if-not-branch.false (roots_decide _ _ _ (c.in_ok-load_explicit.ensures.reported middle)) _
    (λ i. are_temporary (outline i).objects (contents_of (same i))) (c.load_table.ensures.reported clean)

pub returns-clause-loaded : goal.returns-clause-loaded
returns-clause-loaded g c clean =
    let a = state g.S.Store c.args.conn.now in
    let b = state g.S.Store c.load_explicit.new.conn in
    let middle : HasCleanDisk b = omega (arith, c.load_table.ensures.read.frame.survives.clean) in
    let same = (c.in_ok-load_explicit.ensures.read.unchanged middle).0.now_is in
    let outline = c.in_ok-load_explicit.ensures.loaded middle c.if-not-branch.false in
    read_next c.load_table.result c.load_table.new.outline _ _
    (λ i. record (outline i) { temporary = (world_in (contents_of (same i))).temporary })
    (c.load_table.ensures.loaded clean)

pub returns-in_err-load_explicit-clause-read : goal.returns-in_err-load_explicit-clause-read
returns-in_err-load_explicit-clause-read g c =
    several_failed _ _ c.from_residual.result _ c.from_residual.ensures.1 c.load_explicit.ensures.read.frame
    c.in_err-load_explicit.ensures.read.cause

pub returns-then-not-branch-clause-read : goal.returns-then-not-branch-clause-read
returns-then-not-branch-clause-read g c = reads_done _ _ _ _ c.in_ok-load_explicit.ensures.read

pub returns-then-not-has_temporary-clause-read : goal.returns-then-not-has_temporary-clause-read
returns-then-not-has_temporary-clause-read g c = reads_done _ _ _ _ c.in_ok-load_explicit.ensures.read

pub returns-clause-read : goal.returns-clause-read
returns-clause-read g c =
    reads_then _ _ _ c.load_table.result c.load_explicit.ensures.read.frame c.in_ok-load_explicit.ensures.read.unchanged
    c.load_table.ensures.read
