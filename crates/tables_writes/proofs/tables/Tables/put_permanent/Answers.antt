use Rattle.std.proofs.Common.{ℕ, List, Err, string_bytes, ap, subst}
use Rattle.std.specs.FinMap as finite
use Rattle.paths.specs.Root.{bytes_cmp, Set}
use Rattle.model.specs.World.{Path, pair_cmp}
use Rattle.tables_sql.specs.Contents.{Contents}
use Rattle.tables_rows.specs.Reasons.{HasReason}
use Rattle.tables_writes.specs.RowsPut.{PermanentRow}
use Rattle.tables_writes.proofs.AfterWrites.{write_agrees, write_commits, write_fails, failure_agrees, failure_seen}
use Rattle.tables_writes.proofs.AfterWrites.{rows_as}
use Rattle.tables_writes.proofs.PutRoots.{permanent_put, permanent_present, permanent_undone}
use Rattle.tables_writes.proofs.RootChanges.{roots_write}
use Rattle.tables_writes.proofs.tables.Tables.put_permanent.Goals as goal

pub invariant_of-self-in-Ok : goal.invariant_of-self-in-Ok
invariant_of-self-in-Ok g c =
    write_agrees g.S.Store (roots_write
    (λ (m : finite.FinMap bytes_cmp Path). finite.insert m c.args.name.now c.args.target.now)
    (λ (m : finite.FinMap pair_cmp Path). m) (λ (m : Set pair_cmp). m) g.S.Store _ c.args.self.now c.self.view_is
    c.self.invariant c.requires.sound) c.commit.new.conn c.put_permanent.new.self _
    (rows_as g.S.Store _ _ (ap {B = Contents → Contents}
    (λ (t : List ℕ) (x : Contents). record x { permanent = finite.insert x.permanent c.args.name.now t })
    c.as_str.ensures.value) c.in-Ok.ensures.frame)
    (permanent_put c.self.inside.outline c.put_permanent.new.self c.args.name.now (string_bytes c.in_ok-key.key)
    c.args.target.now c.in_ok-value.value c.in_ok-key.ensures.ok c.in_ok-value.ensures.cases
    c.in_ok-had.ensures.done)

pub invariant_of-self-in-Err : goal.invariant_of-self-in-Err
invariant_of-self-in-Err g c =
    failure_agrees g.S.Store (roots_write
    (λ (m : finite.FinMap bytes_cmp Path). finite.insert m c.args.name.now c.args.target.now)
    (λ (m : finite.FinMap pair_cmp Path). m) (λ (m : Set pair_cmp). m) g.S.Store _ c.args.self.now c.self.view_is
    c.self.invariant c.requires.sound) c.commit.new.conn c.undo_permanent.new.self _
    (rows_as g.S.Store _ _ (ap {B = Contents → Contents}
    (λ (t : List ℕ) (x : Contents). record x { permanent = finite.insert x.permanent c.args.name.now t })
    c.as_str.ensures.value) c.in-Err.ensures.frame)
    (permanent_undone c.self.inside.outline c.put_permanent.new.self c.args.name.now (string_bytes c.in_ok-key.key)
    c.args.target.now c.in_ok-value.value c.in_ok-key.ensures.ok c.in_ok-value.ensures.cases
    c.in_ok-had.ensures.done c.undo_permanent.new.self _ c.in_ok-had.ensures.had c.undo_permanent.ensures)

pub returns-in-Ok : goal.returns-in-Ok
returns-in-Ok g c = record {
  frame =
      write_commits g.S.Store (roots_write
      (λ (m : finite.FinMap bytes_cmp Path). finite.insert m c.args.name.now c.args.target.now)
      (λ (m : finite.FinMap pair_cmp Path). m) (λ (m : Set pair_cmp). m) g.S.Store _ c.args.self.now
      c.self.view_is c.self.invariant c.requires.sound) c.commit.new.conn c.put_permanent.new.self _
      (rows_as g.S.Store _ _ (ap {B = Contents → Contents}
      (λ (t : List ℕ) (x : Contents). record x { permanent = finite.insert x.permanent c.args.name.now t })
      c.as_str.ensures.value) c.in-Ok.ensures.frame)
      (permanent_put c.self.inside.outline c.put_permanent.new.self c.args.name.now (string_bytes c.in_ok-key.key)
      c.args.target.now c.in_ok-value.value c.in_ok-key.ensures.ok c.in_ok-value.ensures.cases
      c.in_ok-had.ensures.done) _;
  cause = λ clean. tt;
}

pub returns-in-Err : goal.returns-in-Err
returns-in-Err g c = record {
  frame =
      write_fails g.S.Store (roots_write
      (λ (m : finite.FinMap bytes_cmp Path). finite.insert m c.args.name.now c.args.target.now)
      (λ (m : finite.FinMap pair_cmp Path). m) (λ (m : Set pair_cmp). m) g.S.Store _ c.args.self.now
      c.self.view_is c.self.invariant c.requires.sound) c.commit.new.conn c.undo_permanent.new.self _
      (rows_as g.S.Store _ _ (ap {B = Contents → Contents}
      (λ (t : List ℕ) (x : Contents). record x { permanent = finite.insert x.permanent c.args.name.now t })
      c.as_str.ensures.value) c.in-Err.ensures.frame)
      (permanent_undone c.self.inside.outline c.put_permanent.new.self c.args.name.now (string_bytes c.in_ok-key.key)
      c.args.target.now c.in_ok-value.value c.in_ok-key.ensures.ok c.in_ok-value.ensures.cases
      c.in_ok-had.ensures.done c.undo_permanent.new.self _ c.in_ok-had.ensures.had c.undo_permanent.ensures) _;
  cause =
      subst (λ (t : List ℕ). HasReason {T = Unit {0}} g.S.Store c.args.self.now.connection c.commit.new.conn
      (Err c.in-Err.failure) (PermanentRow c.args.name.now t)) c.as_str.ensures.value
      (failure_seen g.S.Store c.commit.new.conn (PermanentRow c.args.name.now c.as_str.result.now) c.in-Err.failure
      c.self.view_is c.in-Err.ensures.cause);
}

pub undo_permanent-requires : goal.undo_permanent-requires
undo_permanent-requires g c =
    permanent_present c.self.inside.outline c.put_permanent.new.self c.args.name.now (string_bytes c.in_ok-key.key)
    c.args.target.now c.in_ok-value.value c.in_ok-key.ensures.ok c.in_ok-value.ensures.cases c.in_ok-had.ensures.done
