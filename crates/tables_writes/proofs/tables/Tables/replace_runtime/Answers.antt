use Rattle.std.proofs.Common.{map, refl}
use Rattle.std.specs.FinMap as finite
use Rattle.paths.specs.Root.{bytes_cmp, Set}
use Rattle.model.specs.World.{Path, pair_cmp}
use Rattle.tables_outline.specs.Maps.{labelled_bytes, seen_set}
use Rattle.tables_rows.specs.Reasons.{RowsOf}
use Rattle.tables_writes.specs.RowsPut.{RuntimeRow}
use Rattle.tables_writes.proofs.AfterWrites.{write_agrees, write_commits, write_fails, failure_agrees, failure_seen}
use Rattle.tables_writes.proofs.RootChanges.{roots_write}
use Rattle.tables_writes.proofs.tables.Tables.replace_runtime.Goals as goal

pub invariant_of-self : goal.invariant_of-self
invariant_of-self g c =
    write_agrees g.S.Store (roots_write (λ (m : finite.FinMap bytes_cmp Path). m)
    (λ (m : finite.FinMap pair_cmp Path). m)
    (λ (m : Set pair_cmp). seen_set pair_cmp labelled_bytes c.args.roots.keys) g.S.Store _ c.args.self.now
    c.self.view_is c.self.invariant c.requires.sound) c.commit.new.conn c.replace_runtime.new.self _
    (c.in-Ok.ensures.frame)
    (c.replace_runtime.ensures)

pub invariant_of-self-in-Err : goal.invariant_of-self-in-Err
invariant_of-self-in-Err g c =
    failure_agrees g.S.Store (roots_write (λ (m : finite.FinMap bytes_cmp Path). m)
    (λ (m : finite.FinMap pair_cmp Path). m)
    (λ (m : Set pair_cmp). seen_set pair_cmp labelled_bytes c.args.roots.keys) g.S.Store _ c.args.self.now
    c.self.view_is c.self.invariant c.requires.sound) c.commit.new.conn c.self.inside.outline _
    (c.in-Err.ensures.frame)
    (refl)

pub returns-in-Ok : goal.returns-in-Ok
returns-in-Ok g c = record {
  frame =
      write_commits g.S.Store (roots_write (λ (m : finite.FinMap bytes_cmp Path). m)
      (λ (m : finite.FinMap pair_cmp Path). m)
      (λ (m : Set pair_cmp). seen_set pair_cmp labelled_bytes c.args.roots.keys) g.S.Store _ c.args.self.now
      c.self.view_is c.self.invariant c.requires.sound) c.commit.new.conn c.replace_runtime.new.self _
      (c.in-Ok.ensures.frame)
      (c.replace_runtime.ensures) _;
  cause = λ clean. tt;
}

pub returns-in-Err : goal.returns-in-Err
returns-in-Err g c = record {
  frame =
      write_fails g.S.Store (roots_write (λ (m : finite.FinMap bytes_cmp Path). m)
      (λ (m : finite.FinMap pair_cmp Path). m)
      (λ (m : Set pair_cmp). seen_set pair_cmp labelled_bytes c.args.roots.keys) g.S.Store _ c.args.self.now
      c.self.view_is c.self.invariant c.requires.sound) c.commit.new.conn c.self.inside.outline _
      (c.in-Err.ensures.frame)
      (refl) _;
  cause =
      failure_seen g.S.Store c.commit.new.conn (RowsOf RuntimeRow (map labelled_bytes c.args.roots.keys))
      c.in-Err.failure c.self.view_is c.in-Err.ensures.cause;
}
