use Rattle.std.proofs.Common.{◌≡◌, ◌+◌, ◌∷◌, arith, drop, [], length, map, refl, sym, ap, subst, ◌∙◌, List}
use Rattle.std.specs.FinMap as finite
use Rattle.sqlite_value.specs.declared.value.Value.TheVariants.{Text}
use Rattle.sqlite_value.specs.Order.{Row}
use Rattle.sqlite.specs.Held.{state}
use Rattle.tables_sql.specs.Contents.{Contents, contents_of}
use Rattle.model.specs.World.{Path}
use Rattle.tables_writes.specs.Rewritten.{AreFree, put_references}
use Rattle.tables_writes.specs.RowsPut.{ReferenceRow}
use Rattle.tables_sql.proofs.Going.{goes_first, goes_next, goes_done}
use Rattle.tables_sql.proofs.Transactions.{survives_none}
use Rattle.tables_writes.proofs.AfterWrites.{clean_before}
use Rattle.tables_writes.proofs.Lists.{left_at, none_left}
use Rattle.tables_sql.proofs.TestFailures.{passed_on, survives_both}
use Rattle.tables_sql.proofs.Orders.{pair_total}
use Rattle.tables_writes.proofs.Free.{free_next}
use Rattle.tables_rows.specs.Reasons.{Both, RowsOf}
use Rattle.tables_rows.proofs.Reasons.{AreLeft, is_none, left_next, left_whole, next_reason, numbers_of, put_reason}
use Rattle.tables_rows.proofs.Reasons.{row_among}
use Rattle.tables_rows.proofs.Inside.{done_fails}
use Rattle.tables_rows.proofs.Failed.{none_done}
use Rattle.tables_writes.proofs.objects.put_references.Goals as goal

pub targets-init : goal.targets-init
targets-init g c =
    let first = state g.S.Store c.args.tx.now.conn.now in
    record {
      same_reference = refl;
      goes =
          λ clean. goes_first (λ rs (x : Contents). record x { refs = put_references c.args.base.now rs x.refs })
          c.args.targets.now first (c.requires.under_way clean) (c.requires.is_open clean);
      free = c.requires.fits;
      left = λ clean. left_whole (RowsOf (ReferenceRow c.args.base.now) c.args.targets.now) first.now;
      survives = survives_none first;
    }

pub targets-preserved : goal.targets-preserved
targets-preserved g c =
    let base = c.args.base.now in
    let first = state g.S.Store c.args.tx.now.conn.now in
    let now = state g.S.Store c.targets.tx.conn.now in
    let next = state g.S.Store c.insert.new.tx.conn.now in
    let change : List Path → Contents → Contents = λ rs x. record x { refs = put_references base rs x.refs } in
    let was = contents_of now.now in
    let keys : Path → Path × Path = λ t. (base, t) in
    let all = c.args.targets.now in
    let item = c.target-item.result in
    let left = drop c.targets.target-index all in
    let rest = drop (c.targets.target-index + 1) all in
    let split : left ≡ item ∷ rest = left_at all c.targets.target-index item c.targets-test.true c.target-item.is in
    let same : change left was ≡ change rest
    (record was { refs = finite.insert was.refs (base, c.as_str-target.result.now) tt }) =
    ap (λ (xs : List Path). change xs was) split
    ∙ ap (λ t. change rest (record was { refs = finite.insert was.refs (base, t) tt }))
    (sym c.as_str-target.ensures.value) in
    record {
      same_reference = c.in_ok-insert.ensures.frame.same_reference ∙ c.targets.invariant.same_reference;
      goes =
          λ clean. goes_next change all first now next left rest _
          (c.targets.invariant.goes (clean_before now next _ c.insert.ensures.frame.survives clean))
          (c.in_ok-insert.ensures.done clean) same;
      free = λ clean.
          let free =
          subst (λ ts. AreFree was.refs (map keys ts)) split
          (c.targets.invariant.free (clean_before now next _ c.insert.ensures.frame.survives clean)) in
          let after = free_next pair_total was.refs (base, item) tt (map keys rest) free in
          subst (λ (x : Contents). AreFree x.refs (map keys rest)) (sym (c.in_ok-insert.ensures.done clean).contents)
          (subst (λ (t : Path). AreFree (finite.insert was.refs (base, t) tt) (map keys rest))
          (sym c.as_str-target.ensures.value) after);
      left = λ clean.
          let early = clean_before now next _ c.insert.ensures.frame.survives clean in
          let rows = RowsOf (ReferenceRow base) all in
          left_next rows (ReferenceRow base item) (RowsOf (ReferenceRow base) rest) first.now now.now next.now
          (subst (λ ts. AreLeft rows (RowsOf (ReferenceRow base) ts) first.now now.now) split
          (c.targets.invariant.left early))
          (c.targets.invariant.goes early).changes.schema (c.in_ok-insert.ensures.numbers clean);
      survives = survives_both first now next c.targets.invariant.survives c.insert.ensures.frame.survives;
    }

-- one of them wasn't put: none was there before it
pub returns-in_err-insert : goal.returns-in_err-insert
returns-in_err-insert g c = record {
  frame =
      done_fails g.S.Store c.args.tx.now.conn c.targets.tx.conn c.insert.new.tx.conn _
      c.targets.invariant.same_reference (λ clean. (c.targets.invariant.goes clean).changes)
      c.targets.invariant.survives
      c.from_residual.result c.insert.ensures.frame.same_reference c.in_err-insert.ensures.frame.failed
      c.insert.ensures.frame.survives;
  done = λ clean. none_done c.from_residual.result _ _ c.from_residual.ensures.1;
  numbers = λ clean. none_done c.from_residual.result _ _ c.from_residual.ensures.1;
  cause = λ clean.
      let base = c.args.base.now in
      let first = state g.S.Store c.args.tx.now.conn.now in
      let now = state g.S.Store c.targets.tx.conn.now in
      let next = state g.S.Store c.insert.new.tx.conn.now in
      let was = contents_of now.now in
      let all = c.args.targets.now in
      let item = c.target-item.result in
      let left = drop c.targets.target-index all in
      let rest = drop (c.targets.target-index + 1) all in
      let split : left ≡ item ∷ rest = left_at all c.targets.target-index item c.targets-test.true c.target-item.is in
      let early = clean_before now next _ c.insert.ensures.frame.survives clean in
      let free =
      subst (λ ts. AreFree was.refs (map (λ (t : Path). (base, t)) ts)) split (c.targets.invariant.free early) in
      let row : Row = Text base ∷ Text c.as_str-target.result.now ∷ [] in
      let is : row ≡ Text base ∷ Text item ∷ [] = ap (λ t. Text base ∷ Text t ∷ []) c.as_str-target.ensures.value in
      let rows = RowsOf (ReferenceRow base) all in
      let later = RowsOf (ReferenceRow base) rest in
      passed_on c.from_residual.result _ _ c.from_residual.ensures.1
      (next_reason rows (Both (ReferenceRow base item) later) first now next _ (c.targets.invariant.goes early).changes
      c.targets.invariant.survives
      (subst (λ ts. AreLeft rows (RowsOf (ReferenceRow base) ts) first.now now.now) split
      (c.targets.invariant.left early)) _
      (put_reason (Both (ReferenceRow base item) later) now next _ row _ (row_among _ row _ later is)
      (is_none _ (ap (λ t. finite.get was.refs (base, t)) c.as_str-target.ensures.value ∙ free.free.0)) _
      (c.in_err-insert.ensures.cause clean)));
}

pub returns : goal.returns
returns g c = record {
  frame =
      record {
        same_reference = c.targets.invariant.same_reference;
        failed = λ clean. tt;
        survives = c.targets.invariant.survives;
      };
  done = λ clean.
      let first = state g.S.Store c.args.tx.now.conn.now in
      let now = state g.S.Store c.targets.tx.conn.now in
      let all = c.args.targets.now in
      let end : c.targets.target-index ≡ length all = omega arith in
      let none = ap (λ n. drop n all) end ∙ none_left all in
      goes_done (λ rs (x : Contents). record x { refs = put_references c.args.base.now rs x.refs }) all first now
      (drop c.targets.target-index all)
      (ap (λ rs. record (contents_of now.now) { refs = put_references c.args.base.now rs (contents_of now.now).refs })
      none) (c.targets.invariant.goes clean);
  numbers =
      λ clean. numbers_of _ _ (state g.S.Store c.args.tx.now.conn.now).now (state g.S.Store c.targets.tx.conn.now).now
      (c.targets.invariant.left clean);
  cause = λ clean. tt;
}
