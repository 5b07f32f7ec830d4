use Rattle.std.proofs.Common.{◌≡◌, [], ◌∷◌, map, refl, sym, ap, ap₂, subst, subst₂, ◌∙◌, List}
use Rattle.std.specs.FinMap as finite
use Rattle.sqlite_value.specs.declared.value.Value.TheVariants.{Text}
use Rattle.sqlite_value.specs.Order.{Row}
use Rattle.sqlite.specs.Held.{state}
use Rattle.tables_schema.specs.Forms.{runtime}
use Rattle.tables_sql.specs.Contents.{Contents, contents_of, Pair, PairSet}
use Rattle.tables_outline.specs.Maps.{labelled_bytes}
use Rattle.tables_writes.specs.Rewritten.{AreFree, put_pairs}
use Rattle.tables_rows.specs.Reasons.{Both, RowsOf}
use Rattle.tables_writes.specs.RowsPut.{RuntimeRow}
use Rattle.tables_sql.specs.Calls.{Changes}
use Rattle.tables_sql.specs.Rowids.{NumbersOn}
use Rattle.tables_sql.proofs.Going.{goes_first, goes_next, goes_done}
use Rattle.tables_sql.proofs.Transactions.{survives_none}
use Rattle.tables_writes.proofs.AfterWrites.{clean_before}
use Rattle.tables_sql.proofs.TestFailures.{passed_on, survives_both}
use Rattle.tables_sql.proofs.Orders.{pair_total}
use Rattle.tables_writes.proofs.Free.{free_next, runtime_free}
use Rattle.tables_rows.proofs.Reasons.{AreLeft, is_none, left_next, left_whole, next_reason, numbers_of, put_reason}
use Rattle.tables_rows.proofs.Reasons.{row_among}
use Rattle.tables_rows.proofs.Inside.{done_fails}
use Rattle.tables_rows.proofs.Failed.{none_done}
use Rattle.tables_writes.proofs.runtime.put_runtime.Goals as goal

pub roots-init : goal.roots-init
roots-init g c =
    let first = state g.S.Store c.args.tx.now.conn.now in
    record {
      same_reference = refl;
      goes =
          λ clean. goes_first (λ ps (x : Contents). record x { runtime = put_pairs ps x.runtime })
          (map labelled_bytes c.into_iter-root-iterator.result) first (c.requires.under_way clean)
          (c.requires.is_open clean);
      free = λ clean.
          let same : c.into_iter-root-iterator.result ≡ c.args.roots.now.keys = cc in
          subst (λ ks. AreFree (contents_of first.now).runtime (map labelled_bytes ks)) (sym same)
          (subst (λ (m : PairSet). AreFree m (map labelled_bytes c.args.roots.now.keys)) (sym (c.requires.fits clean))
          (runtime_free c.args.roots.now.keys c.len-count.ensures.ordered));
      left = λ clean. left_whole (RowsOf RuntimeRow (map labelled_bytes c.into_iter-root-iterator.result)) first.now;
      survives = survives_none first;
    }

pub roots-preserved : goal.roots-preserved
roots-preserved g c =
    let first = state g.S.Store c.args.tx.now.conn.now in
    let now = state g.S.Store c.roots.tx.conn.now in
    let next = state g.S.Store c.insert.new.tx.conn.now in
    let change : List Pair → Contents → Contents = λ ps x. record x { runtime = put_pairs ps x.runtime } in
    let was = contents_of now.now in
    let left = map labelled_bytes c.roots.root-iterator in
    let rest = map labelled_bytes c.next.new.self in
    let split : left ≡ labelled_bytes c.in-Some.root.now ∷ rest = ap (map labelled_bytes) c.in-Some.ensures.steps in
    let same : change left was ≡ change rest
    (record was { runtime = finite.insert was.runtime (c.as_str.result.now, c.as_str-in-roots.result.now) tt }) =
    ap (λ ps. change ps was) split
    ∙ ap₂ (λ l t. change rest (record was { runtime = finite.insert was.runtime (l, t) tt }))
    (sym c.as_str.ensures.value) (sym c.as_str-in-roots.ensures.value) in
    record {
      same_reference = c.in_ok-insert.ensures.frame.same_reference ∙ c.roots.invariant.same_reference;
      goes =
          λ clean. goes_next change (map labelled_bytes c.into_iter-root-iterator.result) first now next left rest _
          (c.roots.invariant.goes (clean_before now next _ c.insert.ensures.frame.survives clean))
          (c.in_ok-insert.ensures.done clean) same;
      free = λ clean.
          let free =
          subst (AreFree was.runtime) split
          (c.roots.invariant.free (clean_before now next _ c.insert.ensures.frame.survives clean)) in
          let after = free_next pair_total was.runtime (labelled_bytes c.in-Some.root.now) tt rest free in
          subst (λ (x : Contents). AreFree x.runtime rest) (sym (c.in_ok-insert.ensures.done clean).contents)
          (subst₂ (λ l t. AreFree (finite.insert was.runtime (l, t) tt) rest) (sym c.as_str.ensures.value)
          (sym c.as_str-in-roots.ensures.value) after);
      left = λ clean.
          let early = clean_before now next _ c.insert.ensures.frame.survives clean in
          let rows = RowsOf RuntimeRow (map labelled_bytes c.into_iter-root-iterator.result) in
          left_next rows (RuntimeRow (labelled_bytes c.in-Some.root.now)) (RowsOf RuntimeRow rest) first.now now.now
          next.now (subst (λ ps. AreLeft rows (RowsOf RuntimeRow ps) first.now now.now) split
          (c.roots.invariant.left early))
          (c.roots.invariant.goes early).changes.schema (c.in_ok-insert.ensures.numbers clean);
      survives = survives_both first now next c.roots.invariant.survives c.insert.ensures.frame.survives;
    }

-- one of them wasn't put: none was there before it
pub returns-in_err-insert : goal.returns-in_err-insert
returns-in_err-insert g c = record {
  frame =
      done_fails g.S.Store c.args.tx.now.conn c.roots.tx.conn c.insert.new.tx.conn _ c.roots.invariant.same_reference
      (λ clean. (c.roots.invariant.goes clean).changes) c.roots.invariant.survives
      c.from_residual.result c.insert.ensures.frame.same_reference c.in_err-insert.ensures.frame.failed
      c.insert.ensures.frame.survives;
  done = λ clean. none_done c.from_residual.result _ _ c.from_residual.ensures.1;
  numbers = λ clean. none_done c.from_residual.result _ _ c.from_residual.ensures.1;
  cause = λ clean.
      let first = state g.S.Store c.args.tx.now.conn.now in
      let now = state g.S.Store c.roots.tx.conn.now in
      let next = state g.S.Store c.insert.new.tx.conn.now in
      let was = contents_of now.now in
      let left = map labelled_bytes c.roots.root-iterator in
      let rest = map labelled_bytes c.next.new.self in
      let pair = labelled_bytes c.in-Some.root.now in
      let split : left ≡ pair ∷ rest = ap (map labelled_bytes) c.in-Some.ensures.steps in
      let early = clean_before now next _ c.insert.ensures.frame.survives clean in
      let free = subst (AreFree was.runtime) split (c.roots.invariant.free early) in
      let row : Row = Text c.as_str.result.now ∷ Text c.as_str-in-roots.result.now ∷ [] in
      let is : row ≡ Text pair.0 ∷ Text pair.1 ∷ [] =
      ap₂ (λ l t. Text l ∷ Text t ∷ []) c.as_str.ensures.value c.as_str-in-roots.ensures.value in
      let same : c.into_iter-root-iterator.result ≡ c.args.roots.now.keys = cc in
      let rows = RowsOf RuntimeRow (map labelled_bytes c.args.roots.now.keys) in
      let later = RowsOf RuntimeRow rest in
      let all = RowsOf RuntimeRow (map labelled_bytes c.into_iter-root-iterator.result) in
      let unput =
      subst (λ ps. AreLeft all (RowsOf RuntimeRow ps) first.now now.now) split (c.roots.invariant.left early) in
      passed_on c.from_residual.result _ _ c.from_residual.ensures.1
      (next_reason rows (Both (RuntimeRow pair) later) first now next _ (c.roots.invariant.goes early).changes
      c.roots.invariant.survives (subst
      (λ ks. AreLeft (RowsOf RuntimeRow (map labelled_bytes ks)) (Both (RuntimeRow pair) later) first.now
      now.now) same unput) _
      (put_reason (Both (RuntimeRow pair) later) now next runtime row _ (row_among runtime row _ later is)
      (is_none _ (ap₂ (λ l t. finite.get was.runtime (l, t)) c.as_str.ensures.value c.as_str-in-roots.ensures.value
      ∙ free.free.0)) _ (c.in_err-insert.ensures.cause clean)));
}

pub returns : goal.returns
returns g c = record {
  frame =
      record {
        same_reference = c.roots.invariant.same_reference;
        failed = λ clean. tt;
        survives = c.roots.invariant.survives;
      };
  done = λ clean.
      let first = state g.S.Store c.args.tx.now.conn.now in
      let now = state g.S.Store c.roots.tx.conn.now in
      let change : List Pair → Contents → Contents = λ ps x. record x { runtime = put_pairs ps x.runtime } in
      let same : c.into_iter-root-iterator.result ≡ c.args.roots.now.keys = cc in
      subst (λ ks. Changes first now (change (map labelled_bytes ks))) same
      (goes_done change (map labelled_bytes c.into_iter-root-iterator.result) first now
      (map labelled_bytes c.roots.root-iterator)
      (ap (λ ks. change (map labelled_bytes ks) (contents_of now.now)) c.in-None.ensures.steps.0)
      (c.roots.invariant.goes clean));
  numbers = λ clean.
      let first = state g.S.Store c.args.tx.now.conn.now in
      let now = state g.S.Store c.roots.tx.conn.now in
      let same : c.into_iter-root-iterator.result ≡ c.args.roots.now.keys = cc in
      subst (λ ks. NumbersOn (RowsOf RuntimeRow (map labelled_bytes ks)).count first.now now.now) same
      (numbers_of _ _ first.now now.now (c.roots.invariant.left clean));
  cause = λ clean. tt;
}
