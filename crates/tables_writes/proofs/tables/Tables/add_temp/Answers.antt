use Rattle.std.proofs.Common.{ℕ, List, Err, ap, subst}
use Rattle.std.specs.Prelude.{pos}
use Rattle.std.specs.FinMap as finite
use Rattle.tables_sql.specs.Contents.{Contents}
use Rattle.paths.specs.Root.{Set}
use Rattle.model.specs.World.{temporary_cmp}
use Rattle.tables_outline.specs.Maps.{temporary_bytes}
use Rattle.tables_rows.specs.Reasons.{HasReason}
use Rattle.tables_writes.specs.RowsPut.{TemporaryRow}
use Rattle.tables_writes.specs.Temporary.{keeps}
use Rattle.tables_writes.proofs.AfterWrites.{write_agrees, write_commits, write_fails, failure_agrees, failure_seen}
use Rattle.tables_writes.proofs.AfterWrites.{rows_as}
use Rattle.tables_writes.proofs.SessionRows.{added_follows}
use Rattle.tables_writes.proofs.SessionChanges.{temporary_write, temporary_put, temporary_undone}
use Rattle.tables_writes.proofs.tables.Tables.add_temp.Goals as goal

pub invariant_of-self-in-Ok : goal.invariant_of-self-in-Ok
invariant_of-self-in-Ok g c =
    let more : List ℕ → Contents → Contents =
    λ t x. record x { temp_roots = finite.insert x.temp_roots (c.args.owner.now, pos c.args.session, t) tt } in
    write_agrees g.S.Store (temporary_write (more c.args.target.now)
    (λ (m : Set temporary_cmp). finite.insert m (keeps c.args.owner.now c.args.session c.args.target.now) tt)
    g.S.Store _ c.args.self.now (λ x h. added_follows _ x h c.args.owner.now c.args.session c.args.target.now)
    c.self.view_is c.self.invariant c.requires.sound) c.commit.new.conn c.put_temporary.new.self _
    (rows_as g.S.Store _ _ (ap more c.as_str.ensures.value) c.in-Ok.ensures.frame)
    (temporary_put c.self.inside.outline c.put_temporary.new.self
    (keeps c.args.owner.now c.args.session c.args.target.now) (temporary_bytes c.in_ok-key.key)
    (temporary_bytes c.in_ok-again.again) c.in_ok-key.ensures c.in_ok-again.ensures c.in_ok-had.ensures.done)

pub invariant_of-self-in-Err : goal.invariant_of-self-in-Err
invariant_of-self-in-Err g c =
    let more : List ℕ → Contents → Contents =
    λ t x. record x { temp_roots = finite.insert x.temp_roots (c.args.owner.now, pos c.args.session, t) tt } in
    failure_agrees g.S.Store (temporary_write (more c.args.target.now)
    (λ (m : Set temporary_cmp). finite.insert m (keeps c.args.owner.now c.args.session c.args.target.now) tt)
    g.S.Store _ c.args.self.now (λ x h. added_follows _ x h c.args.owner.now c.args.session c.args.target.now)
    c.self.view_is c.self.invariant c.requires.sound) c.commit.new.conn c.undo_temporary.new.self _
    (rows_as g.S.Store _ _ (ap more c.as_str.ensures.value) c.in-Err.ensures.frame)
    (temporary_undone c.self.inside.outline c.put_temporary.new.self
    (keeps c.args.owner.now c.args.session c.args.target.now) (temporary_bytes c.in_ok-key.key)
    (temporary_bytes c.in_ok-again.again) c.in_ok-key.ensures c.in_ok-again.ensures c.in_ok-had.ensures.done
    c.undo_temporary.new.self _ c.in_ok-had.ensures.had c.undo_temporary.ensures)

pub returns-in-Ok : goal.returns-in-Ok
returns-in-Ok g c = record {
  frame =
      let more : List ℕ → Contents → Contents =
      λ t x. record x { temp_roots = finite.insert x.temp_roots (c.args.owner.now, pos c.args.session, t) tt } in
      write_commits g.S.Store (temporary_write (more c.args.target.now)
      (λ (m : Set temporary_cmp). finite.insert m (keeps c.args.owner.now c.args.session c.args.target.now) tt)
      g.S.Store _ c.args.self.now (λ x h. added_follows _ x h c.args.owner.now c.args.session c.args.target.now)
      c.self.view_is c.self.invariant c.requires.sound) c.commit.new.conn c.put_temporary.new.self _
      (rows_as g.S.Store _ _ (ap more c.as_str.ensures.value) c.in-Ok.ensures.frame)
      (temporary_put c.self.inside.outline c.put_temporary.new.self
      (keeps c.args.owner.now c.args.session c.args.target.now) (temporary_bytes c.in_ok-key.key)
      (temporary_bytes c.in_ok-again.again) c.in_ok-key.ensures c.in_ok-again.ensures c.in_ok-had.ensures.done) _;
  cause = λ clean. tt;
}

pub returns : goal.returns
returns g c = record {
  frame =
      let more : List ℕ → Contents → Contents =
      λ t x. record x { temp_roots = finite.insert x.temp_roots (c.args.owner.now, pos c.args.session, t) tt } in
      write_fails g.S.Store (temporary_write (more c.args.target.now)
      (λ (m : Set temporary_cmp). finite.insert m (keeps c.args.owner.now c.args.session c.args.target.now) tt)
      g.S.Store _ c.args.self.now (λ x h. added_follows _ x h c.args.owner.now c.args.session c.args.target.now)
      c.self.view_is c.self.invariant c.requires.sound) c.commit.new.conn c.undo_temporary.new.self _
      (rows_as g.S.Store _ _ (ap more c.as_str.ensures.value) c.in-Err.ensures.frame)
      (temporary_undone c.self.inside.outline c.put_temporary.new.self
      (keeps c.args.owner.now c.args.session c.args.target.now) (temporary_bytes c.in_ok-key.key)
      (temporary_bytes c.in_ok-again.again) c.in_ok-key.ensures c.in_ok-again.ensures c.in_ok-had.ensures.done
      c.undo_temporary.new.self _ c.in_ok-had.ensures.had c.undo_temporary.ensures) _;
  cause =
      subst (λ (t : List ℕ). HasReason {T = Unit {0}} g.S.Store c.args.self.now.connection c.commit.new.conn
      (Err c.in-Err.failure) (TemporaryRow (keeps c.args.owner.now c.args.session t))) c.as_str.ensures.value
      (failure_seen g.S.Store c.commit.new.conn
      (TemporaryRow (keeps c.args.owner.now c.args.session c.as_str.result.now)) c.in-Err.failure c.self.view_is
      c.in-Err.ensures.cause);
}
