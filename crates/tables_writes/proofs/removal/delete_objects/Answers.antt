use Rattle.std.proofs.Common.{◌≡◌, ◌+◌, ◌∷◌, drop, length, arith, refl, sym, ap, subst, ◌∙◌, List}
use Rattle.sqlite.specs.Held.{state}
use Rattle.tables_sql.specs.Contents.{contents_of}
use Rattle.model.specs.World.{Path}
use Rattle.tables_writes.specs.Rewritten.{Covers, without_object, without_objects}
use Rattle.tables_sql.proofs.Going.{goes_first, goes_next, goes_done}
use Rattle.tables_sql.proofs.Rowids.{numbers_on_none, numbers_on_then}
use Rattle.tables_sql.proofs.Steps.{under_after}
use Rattle.tables_sql.proofs.Transactions.{survives_none}
use Rattle.tables_writes.proofs.Covered.{covers_less}
use Rattle.tables_writes.proofs.AfterWrites.{clean_before}
use Rattle.tables_writes.proofs.Lists.{left_at, none_left}
use Rattle.tables_writes.proofs.Removed.{without_none, without_next}
use Rattle.tables_sql.proofs.TestFailures.{passed_on, survives_both}
use Rattle.tables_writes.proofs.Transactions.{pieces_exist}
use Rattle.tables_rows.specs.Reasons.{NoRow}
use Rattle.tables_rows.proofs.Reasons.{next_reason, none_put}
use Rattle.tables_rows.proofs.Inside.{done_fails}
use Rattle.tables_rows.proofs.Failed.{none_done}
use Rattle.tables_writes.proofs.removal.delete_objects.Goals as goal

pub paths-init : goal.paths-init
paths-init g c =
    let first = state g.S.Store c.args.tx.now.conn.now in
    record {
      same_reference = refl;
      goes =
          λ clean. goes_first without_objects c.args.paths.now first (c.requires.under_way clean)
          (c.requires.is_open clean);
      covers = c.requires.fits;
      numbers = λ clean. numbers_on_none first.now;
      survives = survives_none first;
    }

pub paths-preserved : goal.paths-preserved
paths-preserved g c =
    let first = state g.S.Store c.args.tx.now.conn.now in
    let now = state g.S.Store c.paths.tx.conn.now in
    let next = state g.S.Store c.delete_object.new.tx.conn.now in
    let was = contents_of now.now in
    let all = c.args.paths.now in
    let item = c.path-item.result in
    let left = drop c.paths.path-index all in
    let rest = drop (c.paths.path-index + 1) all in
    let split : left ≡ item ∷ rest = left_at all c.paths.path-index item c.paths-test.true c.path-item.is in
    let same : without_objects left was ≡ without_objects rest (without_object item was) =
    ap (λ (xs : List Path). without_objects xs was) split ∙ sym (without_next item rest was) in
    record {
      same_reference = c.in_ok-delete_object.ensures.frame.same_reference ∙ c.paths.invariant.same_reference;
      goes =
          λ clean. goes_next without_objects all first now next left rest _
          (c.paths.invariant.goes (clean_before now next _ c.delete_object.ensures.frame.survives clean))
          (c.in_ok-delete_object.ensures.done clean) same;
      covers =
          λ clean. subst (Covers c.args.outline.now) (sym (c.in_ok-delete_object.ensures.done clean).contents)
          (covers_less c.args.outline.now item was
          (c.paths.invariant.covers (clean_before now next _ c.delete_object.ensures.frame.survives clean)));
      numbers = λ clean.
          let early = clean_before now next _ c.delete_object.ensures.frame.survives clean in
          numbers_on_then 0 0 first.now now.now next.now (c.paths.invariant.goes early).changes.schema
          (c.paths.invariant.numbers early) (c.in_ok-delete_object.ensures.numbers clean);
      survives = survives_both first now next c.paths.invariant.survives c.delete_object.ensures.frame.survives;
    }

pub delete_object-requires : goal.delete_object-requires
delete_object-requires g c =
    let first = state g.S.Store c.args.tx.now.conn.now in
    let now = state g.S.Store c.paths.tx.conn.now in
    record {
      under_way = λ clean. under_after first now _ (c.paths.invariant.goes clean).changes;
      tables =
          λ clean is_open. (
            pieces_exist first now _ (λ clean. (c.paths.invariant.goes clean).changes)
                c.paths.invariant.survives (λ clean is_open. c.requires.exists clean) clean,
            c.paths.invariant.covers clean,
          );
    }

pub returns : goal.returns
returns g c = record {
  frame =
      record {
        same_reference = c.paths.invariant.same_reference;
        failed = λ clean. tt;
        survives = c.paths.invariant.survives;
      };
  done = λ clean.
      let first = state g.S.Store c.args.tx.now.conn.now in
      let now = state g.S.Store c.paths.tx.conn.now in
      let all = c.args.paths.now in
      let end : c.paths.path-index ≡ length all = omega arith in
      let none = ap (λ n. drop n all) end ∙ none_left all in
      goes_done without_objects all first now (drop c.paths.path-index all)
      (ap (λ (xs : List Path). without_objects xs (contents_of now.now)) none ∙ without_none (contents_of now.now))
      (c.paths.invariant.goes clean);
  numbers = c.paths.invariant.numbers;
  cause = λ clean. tt;
}

pub returns-in_err-delete_object : goal.returns-in_err-delete_object
returns-in_err-delete_object g c = record {
  frame =
      done_fails g.S.Store c.args.tx.now.conn c.paths.tx.conn c.delete_object.new.tx.conn _
      c.paths.invariant.same_reference (λ clean. (c.paths.invariant.goes clean).changes) c.paths.invariant.survives
      c.from_residual.result c.delete_object.ensures.frame.same_reference c.in_err-delete_object.ensures.frame.failed
      c.delete_object.ensures.frame.survives;
  done = λ clean. none_done c.from_residual.result _ _ c.from_residual.ensures.1;
  numbers = λ clean. none_done c.from_residual.result _ _ c.from_residual.ensures.1;
  cause = λ clean.
      let first = state g.S.Store c.args.tx.now.conn.now in
      let now = state g.S.Store c.paths.tx.conn.now in
      let next = state g.S.Store c.delete_object.new.tx.conn.now in
      let early = clean_before now next _ c.delete_object.ensures.frame.survives clean in
      passed_on c.from_residual.result _ _ c.from_residual.ensures.1
      (next_reason NoRow NoRow first now next _ (c.paths.invariant.goes early).changes c.paths.invariant.survives
      (none_put NoRow first.now now.now (c.paths.invariant.numbers early)) _
      (c.in_err-delete_object.ensures.cause clean));
}
