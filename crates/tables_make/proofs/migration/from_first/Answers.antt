use Rattle.std.proofs.Common.{◌≡◌, List, ℕ, map, string_bytes, sym, ap, subst, ◌∙◌}
use Rattle.std.specs.FinMap as finite
use Rattle.sqlite.specs.Effect.{Database}
use Rattle.sqlite.specs.Held.{state}
use Rattle.sqlite.proofs.StateLemmas.{survives_then, survives_weaker}
use Rattle.sqlite_trees.specs.Tree.{Trees}
use Rattle.tables_sql.specs.Contents.{Contents, contents_of}
use Rattle.tables_sql.specs.Calls.{Leaves}
use Rattle.tables_sql.proofs.Steps.{clean_before}
use Rattle.tables_sql.proofs.TestFailures.{passed_on}
use Rattle.tables_make.proofs.MigratingFailures.{keys_fail, migrating_before}
use Rattle.tables_rows.proofs.Reasons.{as_reason}
use Rattle.tables_make.specs.Further.{grown}
use Rattle.tables_schema.specs.declared.schema.Schema.TheVariants.{V1}
use Rattle.tables_world.specs.Worlds.{IsSoundBy}
use Rattle.model.specs.World.{Path}
use Rattle.tables_make.specs.Cutting.{cut_objects, renumbered}
use Rattle.tables_make.specs.Migrating.{FailsToPutBy, MigratedRows, RewrittenRows}
use Rattle.tables_make.specs.Migrated.{missing_tables, HasEarlier, migrated_contents, LeavesMigrated}
use Rattle.tables_make.proofs.Grown.{grown_as, grown_from, on_done, shown_err}
use Rattle.tables_rows.proofs.Failed.{always_failed, none_done}
use Rattle.tables_make.proofs.Rewritten.{first_written}
use Rattle.tables_make.proofs.migration.from_first.Goals as goal

-- what was written by the names that were read is the whole migration
written : (a b : Database) (names : List Path) (dir : List ℕ) → b ≡ a → names ≡ finite.keys (contents_of a).objects
    → IsSoundBy V1 dir (contents_of a)
    → renumbered (cut_objects names (contents_of b)) ≡ migrated_contents V1 dir (contents_of a)
written a b names dir same are sound =
    ap (λ (ps : List Path). renumbered (cut_objects ps (contents_of b))) are
    ∙ ap (λ (x : Database). renumbered (cut_objects (finite.keys (contents_of a).objects) (contents_of x))) same
    ∙ first_written dir (contents_of a) sound

pub commit_first-requires : goal.commit_first-requires
commit_first-requires g c =
    let a = state g.S.Store c.args.conn.now in
    let b = state g.S.Store c.find.new.conn in
    record {
      idle = c.find.ensures.found.frame.idle;
      ready = c.find.ensures.found.frame.ready;
      tables = λ clean is_open.
          let same = (c.in_ok-bases.ensures.found.reads clean).0.0 in
          subst (HasEarlier V1) (sym same.now_is)
          (c.requires.tables (clean_before a b _ c.find.ensures.found.frame.survives clean) same.was_open);
    }

pub returns : goal.returns
returns g c = record {
  idle = c.commit_first.ensures.idle;
  done = λ clean.
      let a = state g.S.Store c.args.conn.now in
      let b = state g.S.Store c.find.new.conn in
      let d = state g.S.Store c.commit_first.new.conn in
      let reads = c.in_ok-bases.ensures.found.reads (clean_before b d _ c.commit_first.ensures.survives clean) in
      let names = ap (map string_bytes) c.deref.ensures.value ∙ reads.1 in
      on_done c.commit_first.result _ _
      (λ done dir sound. grown_as (missing_tables V1) _ _ a d
      (written a.now b.now (map string_bytes c.deref.result.now) dir reads.0.0.now_is names sound)
      (grown_from (missing_tables V1) _ a b d reads.0 done)) (c.commit_first.ensures.done clean);
  failed = λ clean.
      let a = state g.S.Store c.args.conn.now in
      let b = state g.S.Store c.find.new.conn in
      let d = state g.S.Store c.commit_first.new.conn in
      shown_err c.commit_first.result a b d
      (c.find.ensures.found.frame.same (clean_before b d _ c.commit_first.ensures.survives clean))
      (c.commit_first.ensures.failed clean);
  cause = λ clean.
      let a = state g.S.Store c.args.conn.now in
      let b = state g.S.Store c.find.new.conn in
      let d = state g.S.Store c.commit_first.new.conn in
      let reads = c.in_ok-bases.ensures.found.reads (clean_before b d _ c.commit_first.ensures.survives clean) in
      let names = ap (map string_bytes) c.deref.ensures.value ∙ reads.1 in
      let bases = map string_bytes c.deref.result.now in
      as_reason _ _ (λ f h. subst (λ ps. FailsToPutBy (RewrittenRows (contents_of a.now) ps) V1 a d f) names
      (subst (λ (x : Database). FailsToPutBy (RewrittenRows (contents_of x) bases) V1 a d f) reads.0.0.now_is
      (migrating_before (RewrittenRows (contents_of b.now) bases) V1 a b d reads.0 c.find.ensures.found.frame.survives f
      h))) c.commit_first.result (c.commit_first.ensures.cause clean);
  durable = c.commit_first.ensures.durable;
  survives =
      let a = state g.S.Store c.args.conn.now in
      let b = state g.S.Store c.find.new.conn in
      let d = state g.S.Store c.commit_first.new.conn in
      let was : Trees → Type 0 =
      λ db. Leaves (grown (missing_tables V1) b.now) db
      (renumbered (cut_objects (map string_bytes c.deref.result.now) (contents_of b.now))) in
      let after : Trees → Type 0 =
      λ db. (dir : List ℕ) → IsSoundBy V1 dir (contents_of a.now) → LeavesMigrated V1 dir a.now db in
      survives_then a b d (λ _. ⊥) was after (λ clean db none. absurd none) (λ clean db l dir sound.
      let reads = c.in_ok-bases.ensures.found.reads (clean_before b d _ c.commit_first.ensures.survives clean) in
      let names = ap (map string_bytes) c.deref.ensures.value ∙ reads.1 in
      subst (λ (x : Contents). Leaves (grown (missing_tables V1) a.now) db x)
      (written a.now b.now (map string_bytes c.deref.result.now) dir reads.0.0.now_is names sound)
      (subst (λ (x : Database). Leaves (grown (missing_tables V1) x) db
      (renumbered (cut_objects (map string_bytes c.deref.result.now) (contents_of b.now)))) reads.0.0.now_is l))
      c.find.ensures.found.frame.survives c.commit_first.ensures.survives;
}

pub returns-in_err-bases : goal.returns-in_err-bases
returns-in_err-bases g c = record {
  idle = c.find.ensures.found.frame.idle;
  done = λ clean. none_done c.from_residual.result _ _ c.from_residual.ensures.1;
  failed = λ clean. always_failed c.from_residual.result _ (c.find.ensures.found.frame.same clean);
  cause =
      λ clean. passed_on c.from_residual.result _ _ c.from_residual.ensures.1
      (keys_fail (MigratedRows V1 (contents_of (state g.S.Store c.args.conn.now).now)) V1
      (state g.S.Store c.args.conn.now) (state g.S.Store c.find.new.conn) _
      (c.in_err-bases.ensures.found.cause clean));
  durable = none_done c.from_residual.result _ _ c.from_residual.ensures.1;
  survives =
      survives_weaker (state g.S.Store c.args.conn.now) (state g.S.Store c.find.new.conn) (λ _. ⊥) _
      (λ clean db no. absurd no) c.find.ensures.found.frame.survives;
}
