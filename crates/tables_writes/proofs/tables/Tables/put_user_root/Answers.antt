use Rattle.std.proofs.Common.{ℕ, List, Err, ap, subst}
use Rattle.std.specs.FinMap as finite
use Rattle.paths.specs.Root.{bytes_cmp, Set}
use Rattle.model.specs.World.{Path, pair_cmp}
use Rattle.tables_sql.specs.Contents.{Contents}
use Rattle.tables_outline.specs.Maps.{pair_bytes}
use Rattle.tables_rows.specs.Reasons.{HasReason}
use Rattle.tables_writes.specs.RowsPut.{UserRootRow}
use Rattle.tables_writes.proofs.AfterWrites.{write_agrees, write_commits, write_fails, failure_agrees, failure_seen}
use Rattle.tables_writes.proofs.AfterWrites.{rows_as}
use Rattle.tables_writes.proofs.PutRoots.{user_put, user_present, user_undone}
use Rattle.tables_writes.proofs.RootChanges.{roots_write}
use Rattle.tables_writes.proofs.tables.Tables.put_user_root.Goals as goal

pub invariant_of-self-in-Ok : goal.invariant_of-self-in-Ok
invariant_of-self-in-Ok g c =
    write_agrees g.S.Store (roots_write (λ (m : finite.FinMap bytes_cmp Path). m)
    (λ (m : finite.FinMap pair_cmp Path). finite.insert m (c.args.owner.now, c.args.name.now) c.args.target.now)
    (λ (m : Set pair_cmp). m) g.S.Store _ c.args.self.now c.self.view_is c.self.invariant c.requires.sound)
    c.commit.new.conn c.put_user_root.new.self _
    (rows_as g.S.Store _ _ (ap {B = Contents → Contents}
    (λ (t : List ℕ) (x : Contents).
    record x { user_roots = finite.insert x.user_roots (c.args.owner.now, c.args.name.now) t })
    c.as_str.ensures.value) c.in-Ok.ensures.frame)
    (user_put c.self.inside.outline c.put_user_root.new.self (c.args.owner.now, c.args.name.now)
    (pair_bytes c.in_ok-key.key) (pair_bytes c.in_ok-again.again) c.args.target.now c.in_ok-value.value
    c.in_ok-key.ensures c.in_ok-again.ensures c.in_ok-value.ensures.cases c.in_ok-had.ensures.done)

pub invariant_of-self-in-Err : goal.invariant_of-self-in-Err
invariant_of-self-in-Err g c =
    failure_agrees g.S.Store (roots_write (λ (m : finite.FinMap bytes_cmp Path). m)
    (λ (m : finite.FinMap pair_cmp Path). finite.insert m (c.args.owner.now, c.args.name.now) c.args.target.now)
    (λ (m : Set pair_cmp). m) g.S.Store _ c.args.self.now c.self.view_is c.self.invariant c.requires.sound)
    c.commit.new.conn c.undo_user_root.new.self _
    (rows_as g.S.Store _ _ (ap {B = Contents → Contents}
    (λ (t : List ℕ) (x : Contents).
    record x { user_roots = finite.insert x.user_roots (c.args.owner.now, c.args.name.now) t })
    c.as_str.ensures.value) c.in-Err.ensures.frame)
    (user_undone c.self.inside.outline c.put_user_root.new.self (c.args.owner.now, c.args.name.now)
    (pair_bytes c.in_ok-key.key) (pair_bytes c.in_ok-again.again) c.args.target.now c.in_ok-value.value
    c.in_ok-key.ensures c.in_ok-again.ensures c.in_ok-value.ensures.cases c.in_ok-had.ensures.done
    c.undo_user_root.new.self _ c.in_ok-had.ensures.had c.undo_user_root.ensures)

pub returns-in-Ok : goal.returns-in-Ok
returns-in-Ok g c = record {
  frame =
      write_commits g.S.Store (roots_write (λ (m : finite.FinMap bytes_cmp Path). m)
      (λ (m : finite.FinMap pair_cmp Path). finite.insert m (c.args.owner.now, c.args.name.now) c.args.target.now)
      (λ (m : Set pair_cmp). m) g.S.Store _ c.args.self.now c.self.view_is c.self.invariant c.requires.sound)
      c.commit.new.conn c.put_user_root.new.self _
      (rows_as g.S.Store _ _ (ap {B = Contents → Contents}
      (λ (t : List ℕ) (x : Contents).
      record x { user_roots = finite.insert x.user_roots (c.args.owner.now, c.args.name.now) t })
      c.as_str.ensures.value) c.in-Ok.ensures.frame)
      (user_put c.self.inside.outline c.put_user_root.new.self (c.args.owner.now, c.args.name.now)
      (pair_bytes c.in_ok-key.key) (pair_bytes c.in_ok-again.again) c.args.target.now c.in_ok-value.value
      c.in_ok-key.ensures c.in_ok-again.ensures c.in_ok-value.ensures.cases c.in_ok-had.ensures.done) _;
  cause = λ clean. tt;
}

pub returns : goal.returns
returns g c = record {
  frame =
      write_fails g.S.Store (roots_write (λ (m : finite.FinMap bytes_cmp Path). m)
      (λ (m : finite.FinMap pair_cmp Path). finite.insert m (c.args.owner.now, c.args.name.now) c.args.target.now)
      (λ (m : Set pair_cmp). m) g.S.Store _ c.args.self.now c.self.view_is c.self.invariant c.requires.sound)
      c.commit.new.conn c.undo_user_root.new.self _
      (rows_as g.S.Store _ _ (ap {B = Contents → Contents}
      (λ (t : List ℕ) (x : Contents).
      record x { user_roots = finite.insert x.user_roots (c.args.owner.now, c.args.name.now) t })
      c.as_str.ensures.value) c.in-Err.ensures.frame)
      (user_undone c.self.inside.outline c.put_user_root.new.self (c.args.owner.now, c.args.name.now)
      (pair_bytes c.in_ok-key.key) (pair_bytes c.in_ok-again.again) c.args.target.now c.in_ok-value.value
      c.in_ok-key.ensures c.in_ok-again.ensures c.in_ok-value.ensures.cases c.in_ok-had.ensures.done
      c.undo_user_root.new.self _ c.in_ok-had.ensures.had c.undo_user_root.ensures) _;
  cause =
      subst (λ (t : List ℕ). HasReason {T = Unit {0}} g.S.Store c.args.self.now.connection c.commit.new.conn
      (Err c.in-Err.failure) (UserRootRow (c.args.owner.now, c.args.name.now) t)) c.as_str.ensures.value
      (failure_seen g.S.Store c.commit.new.conn (UserRootRow (c.args.owner.now, c.args.name.now) c.as_str.result.now)
      c.in-Err.failure c.self.view_is c.in-Err.ensures.cause);
}

pub undo_user_root-requires : goal.undo_user_root-requires
undo_user_root-requires g c =
    user_present c.self.inside.outline c.put_user_root.new.self (c.args.owner.now, c.args.name.now)
    (pair_bytes c.in_ok-key.key) (pair_bytes c.in_ok-again.again) c.args.target.now c.in_ok-value.value
    c.in_ok-key.ensures c.in_ok-again.ensures c.in_ok-value.ensures.cases c.in_ok-had.ensures.done
