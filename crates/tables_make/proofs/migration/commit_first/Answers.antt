use Rattle.std.proofs.Common.{◌≡◌, map, string_bytes, subst, rules}
use Rattle.sqlite.specs.Held.{state}
use Rattle.tables_schema.specs.declared.schema.Schema.TheVariants.{V1}
use Rattle.tables_sql.specs.Contents.{Contents}
use Rattle.tables_make.specs.Cutting.{cut_objects, renumbered}
use Rattle.tables_make.specs.Migrated.{HasEarlier}
use Rattle.tables_make.specs.Migrating.{RewrittenRows}
use Rattle.tables_rows.specs.Reasons.{Rows}
use Rattle.tables_make.proofs.Grown.{begun_has, both_named, grows_under}
use Rattle.tables_make.proofs.Migrations.{IsMigration, undone_migrates, written_migrates}
use Rattle.tables_make.proofs.migration.commit_first.Goals as goal

pub write_first-requires : goal.write_first-requires
write_first-requires g c = record {
  under_way = c.begin-tx.ensures.under_way;
  tables =
      begun_has g.S.Store c.args.conn.now c.begin-tx.result.conn.now (HasEarlier V1) c.begin-tx.ensures.begun
      c.requires.tables;
}

pub commit-requires : goal.commit-requires
commit-requires g c clean =
    grows_under _ _ (state g.S.Store c.begin-tx.result.conn.now) (state g.S.Store c.write_first.new.tx.conn.now)
    (c.in_ok-write_first.ensures.done clean)

pub returns : goal.returns
returns g c =
    let f : Contents → Contents = λ x. renumbered (cut_objects (map string_bytes c.args.bases.now) x) in
    let rows : Contents → Rows = λ x. RewrittenRows x (map string_bytes c.args.bases.now) in
    let same : c.commit.new.tx.0 ≡ c.conn-2-1.given.0 = search rules in
    subst (λ h. IsMigration g.S.Store c.args.conn.now h V1 f rows c.commit.result) same
    (written_migrates g.S.Store c.args.conn.now c.commit.new.tx.0 V1 f rows c.commit.result c.begin-tx.result.conn.now
    (state g.S.Store c.write_first.new.tx.conn.now) c.begin-tx.ensures.begun c.requires
    c.write_first.ensures.frame.survives both_named
    c.in_ok-write_first.ensures.done c.commit.ensures.ended c.commit.ensures.done c.commit.ensures.cause
    c.commit.ensures.failed c.commit.ensures.durable c.commit.ensures.leaves)

-- what was written is undone, and that forgets no fault
pub returns-in_err-write_first : goal.returns-in_err-write_first
returns-in_err-write_first g c =
    let f : Contents → Contents = λ x. renumbered (cut_objects (map string_bytes c.args.bases.now) x) in
    let rows : Contents → Rows = λ x. RewrittenRows x (map string_bytes c.args.bases.now) in
    let same : c.drop-tx.new.self.0 ≡ c.conn-1.given.0 = search rules in
    subst (λ h. IsMigration g.S.Store c.args.conn.now h V1 f rows c.from_residual.result) same
    (undone_migrates g.S.Store c.args.conn.now c.drop-tx.new.self.0 V1 f rows c.from_residual.result
    c.begin-tx.result.conn.now (state g.S.Store c.write_first.new.tx.conn.now) c.begin-tx.ensures.begun c.requires
    c.write_first.ensures.frame.survives
    _ c.from_residual.ensures.1 c.write_first.ensures.frame.kept c.in_err-write_first.ensures.cause
    c.drop-tx.ensures.ended c.drop-tx.ensures.undone c.drop-tx.ensures.survives)
