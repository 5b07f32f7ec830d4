use Rattle.std.proofs.Common.{refl, ◌&&◌, not}
use Rattle.std.proofs.lemmas.Result.{err_from_is_err_and}
use Rattle.std.specs.Prelude.{pos}
use Rattle.std.specs.Ordering.{eq_by_cmp, int_cmp}
use Rattle.std.specs.FinMap as finite
use Rattle.paths.specs.Root.{bytes_cmp}
use Rattle.tables_sql.specs.Contents.{Contents}
use Rattle.tables_outline.specs.Temporary.{entries_without_session}
use Rattle.tables_writes.proofs.AfterWrites.{write_agrees, write_commits, write_fails}
use Rattle.tables_writes.proofs.SessionRows.{ended_follows}
use Rattle.tables_writes.proofs.SessionChanges.{temporary_write}
use Rattle.tables_writes.proofs.tables.Tables.end_session.Goals as goal

pub returns-in_err-commit-clause-frame : goal.returns-in_err-commit-clause-frame
returns-in_err-commit-clause-frame g c =
    let p = err_from_is_err_and c.from_residual.result c.from_residual.ensures.1 in
    rw (p.1, p.2) (write_fails g.S.Store
    (temporary_write (λ (x : Contents).
    record x {
      temp_roots = finite.retain_keys x.temp_roots
          (λ k. not (eq_by_cmp bytes_cmp k.0 c.args.owner.now && eq_by_cmp int_cmp k.1 (pos c.args.session)));
    })
    (entries_without_session c.args.owner.now c.args.session) g.S.Store _ c.args.self.now
    (λ x h. ended_follows _ x h c.args.owner.now c.args.session) c.self.view_is c.self.invariant
    c.requires.sound) c.commit.new.conn c.self.inside.outline _ (c.in_err-commit.ensures.frame)
    (refl) _)

pub invariant_of-self-2 : goal.invariant_of-self-2
invariant_of-self-2 g c =
    write_agrees g.S.Store (temporary_write
    (λ (x : Contents). record x {
      temp_roots =
          finite.retain_keys x.temp_roots
          (λ k. not (eq_by_cmp bytes_cmp k.0 c.args.owner.now && eq_by_cmp int_cmp k.1 (pos c.args.session)));
    })
    (entries_without_session c.args.owner.now c.args.session) g.S.Store _ c.args.self.now
    (λ x h. ended_follows _ x h c.args.owner.now c.args.session) c.self.view_is c.self.invariant c.requires.sound)
    c.commit.new.conn c.end_session.new.self _ (c.in_ok-commit.ensures.frame)
    (c.end_session.ensures.done)

pub returns-clause-frame : goal.returns-clause-frame
returns-clause-frame g c =
    write_commits g.S.Store (temporary_write
    (λ (x : Contents). record x {
      temp_roots =
          finite.retain_keys x.temp_roots
          (λ k. not (eq_by_cmp bytes_cmp k.0 c.args.owner.now && eq_by_cmp int_cmp k.1 (pos c.args.session)));
    })
    (entries_without_session c.args.owner.now c.args.session) g.S.Store _ c.args.self.now
    (λ x h. ended_follows _ x h c.args.owner.now c.args.session) c.self.view_is c.self.invariant c.requires.sound)
    c.commit.new.conn c.end_session.new.self _ (c.in_ok-commit.ensures.frame)
    (c.end_session.ensures.done) _
