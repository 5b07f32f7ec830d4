use Rattle.std.proofs.Common.{sym, ap, ◌∙◌, subst}
use Rattle.std.specs.FinMap as finite
use Rattle.sqlite.specs.Held.{state}
use Rattle.sqlite.specs.State.{HasCleanDisk}
use Rattle.sqlite.specs.Effect.{Database}
use Rattle.tables_schema.specs.Forms.{piece}
use Rattle.tables_sql.specs.Contents.{Contents, contents_of}
use Rattle.tables_sql.specs.Calls.{HasFurther}
use Rattle.tables_sql.specs.Rowids.{NumbersOn}
use Rattle.tables_sql.proofs.Scans.{on_ok}
use Rattle.tables_sql.proofs.Steps.{clean_before, under_after}
use Rattle.tables_sql.proofs.TestFailures.{passed_on}
use Rattle.tables_sql.proofs.Transactions.{done_both}
use Rattle.tables_rows.specs.Entries.{stored_of}
use Rattle.tables_make.specs.Cutting.{cut_object}
use Rattle.tables_make.specs.Migrating.{CutRowsAt, HasUncut, LongRows}
use Rattle.tables_rows.specs.Reasons.{IsReason}
use Rattle.tables_rows.proofs.Reasons.{as_reason, left_unchanged, next_reason, numbers_both, numbers_of, removal_reason}
use Rattle.tables_rows.proofs.Unchanged.{changes_nothing}
use Rattle.tables_make.proofs.Steps.{changes_at, none_cut, found_is, none_is}
use Rattle.tables_make.proofs.Uncut.{rows_found}
use Rattle.tables_rows.proofs.Inside.{done_stays}
use Rattle.tables_rows.proofs.Failed.{none_done, always_failed}
use Rattle.tables_make.proofs.archive_cuts.cut.Goals as goal

pub cut_found-requires : goal.cut_found-requires
cut_found-requires g c =
    let a = state g.S.Store c.args.tx.now.conn.now in
    let b = state g.S.Store c.get_within.new.tx.conn.now in
    let it = stored_of c.in-Some.object in
    let early : HasCleanDisk b → HasCleanDisk a = clean_before a b _ c.get_within.ensures.frame.survives in
    record {
      under_way =
          λ clean. under_after a b (λ x. x)
          (changes_nothing a b (c.requires.under_way (early clean)) (c.in_ok-found.ensures.reads clean).0);
      is_open = λ clean. (c.in_ok-found.ensures.reads clean).0.0.is_open;
      exists = λ clean.
          let same = (c.in_ok-found.ensures.reads clean).0.0 in
          subst (λ (x : Database). HasFurther x piece) (sym same.now_is)
          (c.requires.tables (early clean) same.was_open).0;
      fits = λ clean.
          let reads = c.in_ok-found.ensures.reads clean in
          let present =
          found_is (contents_of a.now).objects c.args.base.now c.in_ok-found.found c.in-Some.object c.in-Some.is
          reads.1 in
          let is = ap (finite.get (contents_of a.now).objects) present.0 ∙ present.1 in
          subst (λ (x : Database). HasUncut it.0 it.1 (contents_of x)) (sym reads.0.0.now_is)
          (record { present = is; free = (c.requires.tables (early clean) reads.0.0.was_open).1 it.0 it.1 is });
    }

pub returns-in-Some : goal.returns-in-Some
returns-in-Some g c = record {
  frame =
      let a = state g.S.Store c.args.tx.now.conn.now in
      let b = state g.S.Store c.get_within.new.tx.conn.now in
      done_stays g.S.Store c.args.tx.now.conn c.get_within.new.tx.conn c.cut_found.new.tx.conn (λ x. x)
      c.get_within.ensures.frame.same_reference
      (λ now. changes_nothing a b (c.requires.under_way (clean_before a b _ c.get_within.ensures.frame.survives now))
      (c.in_ok-found.ensures.reads now).0) c.get_within.ensures.frame.survives
      c.cut_found.result c.cut_found.ensures.frame;
  done = λ clean.
      let a = state g.S.Store c.args.tx.now.conn.now in
      let b = state g.S.Store c.get_within.new.tx.conn.now in
      let d = state g.S.Store c.cut_found.new.tx.conn.now in
      let early : HasCleanDisk b = clean_before b d _ c.cut_found.ensures.frame.survives clean in
      let present =
      found_is (contents_of a.now).objects c.args.base.now c.in_ok-found.found c.in-Some.object c.in-Some.is
      (c.in_ok-found.ensures.reads early).1 in
      done_both a b d (λ x. x) (cut_object (stored_of c.in-Some.object).0)
      (λ now. changes_nothing a b (c.requires.under_way (clean_before a b _ c.get_within.ensures.frame.survives now))
      (c.in_ok-found.ensures.reads now).0) c.cut_found.ensures.frame.survives
      c.cut_found.result (cut_object c.args.base.now) (λ (x : Contents). ap (λ p. cut_object p x) present.0)
      c.cut_found.ensures.done clean;
  numbers = λ clean.
      let a = state g.S.Store c.args.tx.now.conn.now in
      let b = state g.S.Store c.get_within.new.tx.conn.now in
      let d = state g.S.Store c.cut_found.new.tx.conn.now in
      let it = stored_of c.in-Some.object in
      let reads = c.in_ok-found.ensures.reads (clean_before b d _ c.cut_found.ensures.frame.survives clean) in
      let present =
      found_is (contents_of a.now).objects c.args.base.now c.in_ok-found.found c.in-Some.object c.in-Some.is
      reads.1 in
      let rows = LongRows it.0 it.1 in
      on_ok c.cut_found.result _ _ (λ on. rows_found (λ rs. NumbersOn rs.count a.now d.now) (contents_of a.now)
      c.args.base.now it.0 it.1 present.0 present.1
      (numbers_both rows rows a.now b.now d.now (left_unchanged rows a.now b.now reads.0.0.now_is)
      (ap (λ (x : Database). x.schema) reads.0.0.now_is) on)) (c.cut_found.ensures.numbers clean);
  cause = λ clean.
      let a = state g.S.Store c.args.tx.now.conn.now in
      let b = state g.S.Store c.get_within.new.tx.conn.now in
      let d = state g.S.Store c.cut_found.new.tx.conn.now in
      let it = stored_of c.in-Some.object in
      let early : HasCleanDisk b = clean_before b d _ c.cut_found.ensures.frame.survives clean in
      let reads = c.in_ok-found.ensures.reads early in
      let present =
      found_is (contents_of a.now).objects c.args.base.now c.in_ok-found.found c.in-Some.object c.in-Some.is
      reads.1 in
      let nothing =
      changes_nothing a b (c.requires.under_way (clean_before a b _ c.get_within.ensures.frame.survives early))
      reads.0 in
      let rows = LongRows it.0 it.1 in
      as_reason _ _ (λ f h. rows_found (λ rs. IsReason rs a d f) (contents_of a.now) c.args.base.now it.0 it.1 present.0
      present.1
      (next_reason rows rows a b d _ nothing c.get_within.ensures.frame.survives
      (left_unchanged rows a.now b.now reads.0.0.now_is) f h)) c.cut_found.result
      (c.cut_found.ensures.cause clean);
}

pub returns-in-None : goal.returns-in-None
returns-in-None g c = record {
  frame =
      record {
        same_reference = c.get_within.ensures.frame.same_reference;
        failed = λ clean. tt;
        survives = c.get_within.ensures.frame.survives;
      };
  done = λ clean.
      let a = state g.S.Store c.args.tx.now.conn.now in
      let b = state g.S.Store c.get_within.new.tx.conn.now in
      let reads = c.in_ok-found.ensures.reads clean in
      changes_at a b (λ x. x) _ (none_cut c.args.base.now (contents_of a.now)
      (none_is (contents_of a.now).objects c.args.base.now c.in_ok-found.found c.in-None.is reads.1))
      (changes_nothing a b (c.requires.under_way (clean_before a b _ c.get_within.ensures.frame.survives clean))
      reads.0);
  numbers = λ clean.
      let a = state g.S.Store c.args.tx.now.conn.now in
      let b = state g.S.Store c.get_within.new.tx.conn.now in
      let rows = CutRowsAt (contents_of a.now) c.args.base.now in
      numbers_of rows rows a.now b.now (left_unchanged rows a.now b.now (c.in_ok-found.ensures.reads clean).0.0.now_is);
  cause = λ clean. tt;
}

pub returns-in_err-found : goal.returns-in_err-found
returns-in_err-found g c = record {
  frame =
      record {
        same_reference = c.get_within.ensures.frame.same_reference;
        failed = λ clean. always_failed c.from_residual.result _ (c.in_err-found.ensures.frame.failed clean);
        survives = c.get_within.ensures.frame.survives;
      };
  done = λ clean. none_done c.from_residual.result _ _ c.from_residual.ensures.1;
  numbers = λ clean. none_done c.from_residual.result _ _ c.from_residual.ensures.1;
  cause =
      λ clean. passed_on c.from_residual.result _ _ c.from_residual.ensures.1
      (removal_reason _ (state g.S.Store c.args.tx.now.conn.now) (state g.S.Store c.get_within.new.tx.conn.now) _
      (c.in_err-found.ensures.cause clean));
}
