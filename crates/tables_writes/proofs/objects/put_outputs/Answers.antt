use Rattle.std.proofs.Common.{◌≡◌, ℕ, ◌+◌, ◌<◌, length, arith, drop, map, string_bytes, refl, sym, ap, ap₂, subst, []}
use Rattle.std.proofs.Common.{◌∷◌, ◌∙◌, List}
use Rattle.std.specs.List.{zip}
use Rattle.std.specs.FinMap as finite
use Rattle.sqlite_value.specs.declared.value.Value.TheVariants.{Text}
use Rattle.sqlite_value.specs.Order.{Row}
use Rattle.sqlite.specs.Held.{state}
use Rattle.tables_sql.specs.Contents.{Contents, contents_of, pair_cmp}
use Rattle.model.specs.World.{Path}
use Rattle.tables_sql.proofs.Orders.{pair_total}
use Rattle.tables_writes.specs.Rewritten.{AreFree, put_outputs}
use Rattle.tables_writes.specs.RowsPut.{OutputRow}
use Rattle.tables_sql.proofs.Going.{goes_first, goes_next, goes_done}
use Rattle.tables_writes.proofs.Free.{free_next}
use Rattle.tables_writes.proofs.AfterWrites.{clean_before}
use Rattle.tables_writes.proofs.Lists.{zip_at, no_pairs_left}
use Rattle.tables_sql.proofs.Transactions.{survives_none}
use Rattle.tables_sql.proofs.TestFailures.{passed_on, survives_both}
use Rattle.tables_rows.specs.Reasons.{Both, RowsOf}
use Rattle.tables_rows.proofs.Reasons.{AreLeft, is_none, left_next, left_whole, next_reason, numbers_of, put_reason}
use Rattle.tables_rows.proofs.Reasons.{row_among}
use Rattle.tables_rows.proofs.Inside.{done_fails}
use Rattle.tables_rows.proofs.Failed.{none_done}
use Rattle.tables_writes.proofs.objects.put_outputs.Goals as goal

pub outputs-init : goal.outputs-init
outputs-init g c =
    let first = state g.S.Store c.args.tx.now.conn.now in
    let all = zip (map string_bytes c.args.names.now) c.args.outputs.now in
    record {
      same_reference = refl;
      goes =
          λ clean. goes_first (λ es (x : Contents). record x { outs = put_outputs c.args.base.now es x.outs }) all first
          (c.requires.frame.under_way clean) (c.requires.frame.is_open clean);
      free = c.requires.frame.fits;
      left = λ clean. left_whole (RowsOf (OutputRow c.args.base.now) all) first.now;
      survives = survives_none first;
    }

pub outputs-preserved : goal.outputs-preserved
outputs-preserved g c =
    let base = c.args.base.now in
    let first = state g.S.Store c.args.tx.now.conn.now in
    let now = state g.S.Store c.outputs.tx.conn.now in
    let next = state g.S.Store c.insert.new.tx.conn.now in
    let change : List (List ℕ × Path) → Contents → Contents = λ es x. record x { outs = put_outputs base es x.outs } in
    let was = contents_of now.now in
    let keys : List ℕ × Path → Path × List ℕ = λ e. (base, e.0) in
    let all = zip (map string_bytes c.args.names.now) c.args.outputs.now in
    let left = drop c.outputs.i all in
    let rest = drop (c.outputs.i + 1) all in
    let name = string_bytes c.index-names-i.result in
    let target = c.index-outputs-i.result in
    let inside : c.outputs.i < length c.args.names.now = omega arith in
    let beside : c.outputs.i < length c.args.outputs.now = omega arith in
    let split : left ≡ (name, target) ∷ rest =
    zip_at string_bytes c.args.names.now c.args.outputs.now c.outputs.i c.index-names-i.result target inside beside
    c.index-names-i.is c.index-outputs-i.is in
    let written : ◌≡◌ {A = finite.FinMap pair_cmp Path} (finite.insert was.outs (base, name) target)
    (finite.insert was.outs (base, c.as_str.result.now) c.as_str-in-outputs.result.now) =
    ap₂ (λ n t. finite.insert was.outs (base, n) t) (sym c.as_str.ensures.value)
    (sym c.as_str-in-outputs.ensures.value) in
    let same : change left was ≡ change rest
    (record was { outs = finite.insert was.outs (base, c.as_str.result.now) c.as_str-in-outputs.result.now }) =
    ap (λ es. change es was) split ∙ ap (λ m. change rest (record was { outs = m })) written in
    record {
      same_reference = c.in_ok-insert.ensures.frame.same_reference ∙ c.outputs.invariant.same_reference;
      goes =
          λ clean. goes_next change all first now next left rest _
          (c.outputs.invariant.goes (clean_before now next _ c.insert.ensures.frame.survives clean))
          (c.in_ok-insert.ensures.done clean) same;
      free = λ clean.
          let free =
          subst (λ es. AreFree was.outs (map keys es)) split
          (c.outputs.invariant.free (clean_before now next _ c.insert.ensures.frame.survives clean)) in
          let after = free_next pair_total was.outs (base, name) target (map keys rest) free in
          subst (λ (x : Contents). AreFree x.outs (map keys rest)) (sym (c.in_ok-insert.ensures.done clean).contents)
          (subst (λ (m : finite.FinMap pair_cmp Path). AreFree m (map keys rest)) written after);
      left = λ clean.
          let early = clean_before now next _ c.insert.ensures.frame.survives clean in
          let rows = RowsOf (OutputRow base) all in
          left_next rows (OutputRow base (name, target)) (RowsOf (OutputRow base) rest) first.now now.now next.now
          (subst (λ es. AreLeft rows (RowsOf (OutputRow base) es) first.now now.now) split
          (c.outputs.invariant.left early))
          (c.outputs.invariant.goes early).changes.schema (c.in_ok-insert.ensures.numbers clean);
      survives = survives_both first now next c.outputs.invariant.survives c.insert.ensures.frame.survives;
    }

pub returns : goal.returns
returns g c = record {
  frame =
      record {
        same_reference = c.outputs.invariant.same_reference;
        failed = λ clean. tt;
        survives = c.outputs.invariant.survives;
      };
  done = λ clean.
      let first = state g.S.Store c.args.tx.now.conn.now in
      let now = state g.S.Store c.outputs.tx.conn.now in
      let all = zip (map string_bytes c.args.names.now) c.args.outputs.now in
      let end : c.outputs.i ≡ length c.args.names.now = omega arith in
      let none =
      ap (λ n. drop n all) end ∙ no_pairs_left string_bytes c.args.names.now c.args.outputs.now c.requires.count in
      goes_done (λ es (x : Contents). record x { outs = put_outputs c.args.base.now es x.outs }) all first now
      (drop c.outputs.i all)
      (ap (λ es. record (contents_of now.now) { outs = put_outputs c.args.base.now es (contents_of now.now).outs })
      none) (c.outputs.invariant.goes clean);
  numbers =
      λ clean. numbers_of _ _ (state g.S.Store c.args.tx.now.conn.now).now (state g.S.Store c.outputs.tx.conn.now).now
      (c.outputs.invariant.left clean);
  cause = λ clean. tt;
}

-- one of them wasn't put: none was there before it
pub returns-in_err-insert : goal.returns-in_err-insert
returns-in_err-insert g c = record {
  frame =
      done_fails g.S.Store c.args.tx.now.conn c.outputs.tx.conn c.insert.new.tx.conn _
      c.outputs.invariant.same_reference (λ clean. (c.outputs.invariant.goes clean).changes)
      c.outputs.invariant.survives
      c.from_residual.result c.insert.ensures.frame.same_reference c.in_err-insert.ensures.frame.failed
      c.insert.ensures.frame.survives;
  done = λ clean. none_done c.from_residual.result _ _ c.from_residual.ensures.1;
  numbers = λ clean. none_done c.from_residual.result _ _ c.from_residual.ensures.1;
  cause = λ clean.
      let base = c.args.base.now in
      let first = state g.S.Store c.args.tx.now.conn.now in
      let now = state g.S.Store c.outputs.tx.conn.now in
      let next = state g.S.Store c.insert.new.tx.conn.now in
      let was = contents_of now.now in
      let all = zip (map string_bytes c.args.names.now) c.args.outputs.now in
      let left = drop c.outputs.i all in
      let rest = drop (c.outputs.i + 1) all in
      let name = string_bytes c.index-names-i.result in
      let target = c.index-outputs-i.result in
      let inside : c.outputs.i < length c.args.names.now = omega arith in
      let beside : c.outputs.i < length c.args.outputs.now = omega arith in
      let split : left ≡ (name, target) ∷ rest =
      zip_at string_bytes c.args.names.now c.args.outputs.now c.outputs.i c.index-names-i.result target inside
      beside c.index-names-i.is c.index-outputs-i.is in
      let early = clean_before now next _ c.insert.ensures.frame.survives clean in
      let free =
      subst (λ es. AreFree was.outs (map (λ (e : List ℕ × Path). (base, e.0)) es)) split
      (c.outputs.invariant.free early) in
      let row : Row = Text base ∷ Text c.as_str.result.now ∷ Text c.as_str-in-outputs.result.now ∷ [] in
      let is : row ≡ Text base ∷ Text name ∷ Text target ∷ [] =
      ap₂ (λ n t. Text base ∷ Text n ∷ Text t ∷ []) c.as_str.ensures.value c.as_str-in-outputs.ensures.value in
      let rows = RowsOf (OutputRow base) all in
      let later = RowsOf (OutputRow base) rest in
      passed_on c.from_residual.result _ _ c.from_residual.ensures.1
      (next_reason rows (Both (OutputRow base (name, target)) later) first now next _
      (c.outputs.invariant.goes early).changes c.outputs.invariant.survives
      (subst (λ es. AreLeft rows (RowsOf (OutputRow base) es) first.now now.now) split
      (c.outputs.invariant.left early)) _
      (put_reason (Both (OutputRow base (name, target)) later) now next _ row _ (row_among _ row _ later is)
      (is_none _ (ap (λ n. finite.get was.outs (base, n)) c.as_str.ensures.value ∙ free.free.0)) _
      (c.in_err-insert.ensures.cause clean)));
}
