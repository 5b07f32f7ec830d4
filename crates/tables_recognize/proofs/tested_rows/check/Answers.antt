use Rattle.std.proofs.Common.{inr, refl, sym, ◌∙◌}
use Rattle.tables_sql.proofs.RowByRow.{answered_before, unchanged_before}
use Rattle.tables_recognize.proofs.OwnRowids.{differ_not}
use Rattle.tables_recognize.proofs.Shown.{left_shown}
use Rattle.tables_recognize.proofs.tested_rows.check.Goals as goal

pub returns-else-branch-clause-cause : goal.returns-else-branch-clause-cause
returns-else-branch-clause-cause g c clean =
    let shown = c.in_ok-read.ensures.shown clean in
    inr (
      shown.0,
      shown.1.1,
      inr (
        refl,
        differ_not shown.0 c.in_ok-read.read.ids.items shown.2.0
            (λ apart. let no = sym (c.in_ok-differ.ensures.differ.1 apart) ∙ c.if-branch.false in cc),
      ),
    )

pub returns-in_err-read-clause-frame : goal.returns-in_err-read-clause-frame
returns-in_err-read-clause-frame g c =
    let now = c.read_into.ensures in
    left_shown g.S.Store _ _ c.requires.frame now.idle
    (λ clean settled. answered_before c.read_into.result _ _ c.requires.reads _ _ settled _ _ (now.shown clean)
    (now.cause clean)) now.survives

pub returns-in_err-differ-clause-frame : goal.returns-in_err-differ-clause-frame
returns-in_err-differ-clause-frame g c =
    let now = c.read_into.ensures in
    left_shown g.S.Store _ _ c.requires.frame now.idle
    (λ clean _. unchanged_before _ _ (c.in_ok-read.ensures.shown clean).1.1.1) now.survives

pub returns-then-branch-clause-frame : goal.returns-then-branch-clause-frame
returns-then-branch-clause-frame g c =
    let now = c.read_into.ensures in
    left_shown g.S.Store _ _ c.requires.frame now.idle
    (λ clean _. unchanged_before _ _ (c.in_ok-read.ensures.shown clean).1.1.1) now.survives

pub returns-else-branch-clause-frame : goal.returns-else-branch-clause-frame
returns-else-branch-clause-frame g c =
    let now = c.read_into.ensures in
    left_shown g.S.Store _ _ c.requires.frame now.idle
    (λ clean _. unchanged_before _ _ (c.in_ok-read.ensures.shown clean).1.1.1) now.survives
