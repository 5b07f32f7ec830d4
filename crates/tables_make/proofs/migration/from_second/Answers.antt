use Rattle.std.proofs.Common.{◌≡◌, subst, rules}
use Rattle.sqlite.specs.Held.{state}
use Rattle.tables_schema.specs.declared.schema.Schema.TheVariants.{V2}
use Rattle.tables_sql.specs.Contents.{contents_of}
use Rattle.tables_make.specs.Cutting.{renumbered}
use Rattle.tables_make.specs.Commits.{Migrates}
use Rattle.tables_make.specs.Migrating.{MigratedRows}
use Rattle.tables_make.specs.Migrated.{HasEarlier}
use Rattle.tables_make.proofs.Grown.{begun_has, last_named, grows_under}
use Rattle.tables_make.proofs.Migrations.{migrates, undone_migrates, written_migrates}
use Rattle.tables_make.proofs.Rewritten.{second_written}
use Rattle.tables_make.proofs.migration.from_second.Goals as goal

pub write_second-requires : goal.write_second-requires
write_second-requires g c = record {
  under_way = c.begin-tx.ensures.under_way;
  tables =
      begun_has g.S.Store c.args.conn.now c.begin-tx.result.conn.now (HasEarlier V2) c.begin-tx.ensures.begun
      c.requires.tables;
}

pub commit-requires : goal.commit-requires
commit-requires g c clean =
    grows_under _ _ (state g.S.Store c.begin-tx.result.conn.now) (state g.S.Store c.write_second.new.tx.conn.now)
    (c.in_ok-write_second.ensures.done clean)

pub returns : goal.returns
returns g c =
    let conn = c.args.conn.now in
    let end = c.commit.new.tx.0 in
    let same : end ≡ c.conn-2-1.given.0 = search rules in
    subst (λ h. Migrates g.S.Store conn h c.commit.result V2) same
    (migrates g.S.Store conn end V2 renumbered (MigratedRows V2) c.commit.result
    (λ dir sound. second_written dir (contents_of (state g.S.Store conn).now) sound) (λ f h. h)
    (written_migrates g.S.Store conn end V2 renumbered (MigratedRows V2) c.commit.result c.begin-tx.result.conn.now
    (state g.S.Store c.write_second.new.tx.conn.now) c.begin-tx.ensures.begun c.requires
    c.write_second.ensures.frame.survives last_named
    c.in_ok-write_second.ensures.done c.commit.ensures.ended c.commit.ensures.done c.commit.ensures.cause
    c.commit.ensures.failed c.commit.ensures.durable c.commit.ensures.leaves))

-- what was written is undone, and that forgets no fault
pub returns-in_err-write_second : goal.returns-in_err-write_second
returns-in_err-write_second g c =
    let conn = c.args.conn.now in
    let end = c.drop-tx.new.self.0 in
    let same : end ≡ c.conn-1.given.0 = search rules in
    subst (λ h. Migrates g.S.Store conn h c.from_residual.result V2) same
    (migrates g.S.Store conn end V2 renumbered (MigratedRows V2) c.from_residual.result
    (λ dir sound. second_written dir (contents_of (state g.S.Store conn).now) sound) (λ f h. h)
    (undone_migrates g.S.Store conn end V2 renumbered (MigratedRows V2) c.from_residual.result
    c.begin-tx.result.conn.now (state g.S.Store c.write_second.new.tx.conn.now) c.begin-tx.ensures.begun
    c.requires c.write_second.ensures.frame.survives
    _ c.from_residual.ensures.1 c.write_second.ensures.frame.kept c.in_err-write_second.ensures.cause
    c.drop-tx.ensures.ended c.drop-tx.ensures.undone c.drop-tx.ensures.survives))
