use Rattle.std.proofs.Common.{◌≡◌, ◌⊎◌, inl, inr, [], ◌∷◌, ◌++◌, refl, rules, arith}
use Rattle.sqlite.specs.State.{HasCleanDisk, IsUnchanged, Survives, Shown, Begins, CommitsShowing, FailsToQuery}
use Rattle.sqlite.specs.Held.{state}
use Rattle.sqlite.specs.Values.{bound}
use Rattle.sqlite.proofs.Callers.{given_begin, unchanged_then}
use Rattle.tables_sql.specs.declared.failure.Failed.TheVariants.{Memory, Disk}
use Rattle.tables_sql.proofs.TestFailures.{passed_on}
use Rattle.tables_sql.proofs.RowByRow.{commits_nothing, begun, shown_since, begins_since, fails_since}
use Rattle.tables_sql.proofs.query.read_into.Goals as goal

pub returns-in_err-rows-clause-survives : goal.returns-in_err-rows-clause-survives
returns-in_err-rows-clause-survives g c =
    let old = state g.S.Store c.args.conn.now in
    let new = state g.S.Store c.query.follows.lender-at-none in
    let held = c.query.follows.holds-at-none in
    let kept : Survives old new (CommitsShowing c.args.text.now (bound c.args.params.now) old) = search rules in
    commits_nothing c.args.text.now (bound c.args.params.now) c.requires.reads old new kept

pub rows-init : goal.rows-init
rows-init g c =
    let made = c.in_ok-rows.ensures in
    let text = c.args.text.now in
    let params = bound c.args.params.now in (
      refl,
      made.mode,
      commits_nothing text params c.requires.reads _ _ made.survives,
      λ clean. let at =
          begun g.S.Store text params c.requires.reads c.args.conn.now _ (made.begun clean) in
          ([], at.0, at.1, c.requires.empty),
    )

pub returns-in_err-row-clause-cause : goal.returns-in_err-row-clause-cause
returns-in_err-row-clause-cause g c clean =
    let text = c.args.text.now in
    let params = bound c.args.params.now in
    let moved = c.next.follows.holds-at-none in
    let now = c.next.follows.lender-at-none.conn.now in
    let late : HasCleanDisk (state g.S.Store now) = search rules in
    let was = c.rows.invariant.3 (omega (arith, moved.survives.clean, late)) in
    let why = rw c.in_err-row.was at (moved.err late) in
    let since : FailsToQuery text params (state g.S.Store c.args.conn.now) (state g.S.Store now)
    c.in_err-row.field-0.0 = fails_since text params c.requires.reads _ _ was.2 c.rows.invariant.2
    (state g.S.Store now) c.in_err-row.field-0.0 (why text params was.0 was.1) in
    search (rules, since)

pub returns-in_default-clause-shown : goal.returns-in_default-clause-shown
returns-in_default-clause-shown g c clean =
    let text = c.args.text.now in
    let params = bound c.args.params.now in
    let moved = c.next.follows.holds-at-none in
    let now = c.next.follows.lender-at-none.conn.now in
    let late : HasCleanDisk (state g.S.Store now) = search rules in
    let was = c.rows.invariant.3 (omega (arith, moved.survives.clean, late)) in
    let shown = (rw (c.in_ok-row.was, c.in_default.is) at (moved.ok late)) text params was.0 was.1 in
    let all : Shown text params (state g.S.Store c.args.conn.now) (state g.S.Store now) was.0 =
    shown_since text params c.requires.reads _ _ was.2 (state g.S.Store now) was.0 shown in
    let same : IsUnchanged (state g.S.Store c.args.conn.now) (state g.S.Store now) =
    unchanged_then _ _ (state g.S.Store now) was.2 (rw c.in_ok-row.was at (moved.same late)) in
    let begins : Begins text params (state g.S.Store c.args.conn.now) was.0 =
    begins_since text params c.requires.reads _ _ was.2 was.0
    (given_begin g.S.Store text params c.rows.rows.conn.now was.0 was.1) in
    let is = was.3 in
    (was.0, (search (rules, all), (begins, search (rules, same))), is)

pub returns-in_err-take-clause-cause : goal.returns-in_err-take-clause-cause
returns-in_err-take-clause-cause g c clean =
    let text = c.args.text.now in
    let params = bound c.args.params.now in
    let old = state g.S.Store c.args.conn.now in
    let moved = c.next.follows.holds-at-none in
    let now = c.next.follows.lender-at-none.conn.now in
    let late : HasCleanDisk (state g.S.Store now) = search rules in
    let was = c.rows.invariant.3 (omega (arith, moved.survives.clean, late)) in
    let given = (rw (c.in_ok-row.was, c.in-Some.is) at (moved.ok late)) text params was.0 was.1 in
    let rows = was.0 ++ c.in-Some.row.now ∷ [] in
    let same : IsUnchanged old (state g.S.Store now) =
    unchanged_then old _ (state g.S.Store now) was.2 ((rw c.in_ok-row.was at (moved.same late))) in
    let begins : Begins text params old rows =
    begins_since text params c.requires.reads old _ same rows (given_begin g.S.Store text params now rows given) in
    let why : (c.in_err-take.field-0.0 ≡ Memory) ⊎ ((c.in_err-take.field-0.0 ≡ Disk) × g.T.Sink.is_amiss rows) =
    elim c.in_err-take.ensures.refused [ inl memory ↦ inl memory | inr h ↦ inr (h.0, h.1 was.0 was.3) ] in
    let kept : IsUnchanged old (state g.S.Store c.conn-in_err-take-1.given.0) = search (rules, same) in
    passed_on c.from_residual-in_err-take.result _ _ c.from_residual-in_err-take.ensures.1
    (inr (rows, (begins, kept), why))

pub returns-clause-cause : goal.returns-clause-cause
returns-clause-cause g c clean =
    let text = c.args.text.now in
    let params = bound c.args.params.now in
    let now = c.rows.rows.conn.now in
    let late : HasCleanDisk (state g.S.Store now) = search rules in
    let was = c.rows.invariant.3 late in
    let begins : Begins text params (state g.S.Store c.args.conn.now) was.0 =
    begins_since text params c.requires.reads _ _ was.2 was.0 (given_begin g.S.Store text params now was.0 was.1) in
    let same = was.2 in
    inr (was.0, (begins, search (rules, same)), inl refl)
