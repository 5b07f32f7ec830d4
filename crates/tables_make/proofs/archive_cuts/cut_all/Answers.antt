use Rattle.std.proofs.Common.{◌≡◌, ◌+◌, ◌∷◌, drop, length, map, string_bytes, arith, refl, sym, ap, subst, ◌∙◌, List}
use Rattle.sqlite.specs.Held.{state}
use Rattle.tables_sql.specs.Contents.{Contents, contents_of}
use Rattle.tables_sql.specs.Rowids.{NumbersOn}
use Rattle.tables_sql.proofs.Rowids.{numbers_on_more}
use Rattle.tables_sql.proofs.Going.{goes_first, goes_next, goes_done}
use Rattle.tables_sql.proofs.Steps.{clean_before, under_after}
use Rattle.tables_sql.proofs.TestFailures.{passed_on, survives_both}
use Rattle.tables_sql.proofs.Transactions.{survives_none}
use Rattle.tables_sql.proofs.Under.{piece_after}
use Rattle.model.specs.World.{Path}
use Rattle.tables_make.specs.Cutting.{cut_object, cut_objects}
use Rattle.tables_make.specs.Migrating.{CutRowsAt, IsUncut}
use Rattle.tables_rows.specs.Reasons.{Rows, AreAmong, Both, RowsOf}
use Rattle.tables_rows.proofs.Reasons.{AreLeft, all_among, left_whole, among_then, first_among, left_next, more_reason}
use Rattle.tables_rows.proofs.Reasons.{next_reason, numbers_of}
use Rattle.tables_make.proofs.Steps.{left_at, none_left}
use Rattle.tables_make.proofs.Uncut.{cut_among, uncut_next}
use Rattle.tables_rows.proofs.Inside.{done_fails}
use Rattle.tables_rows.proofs.Failed.{none_done}
use Rattle.tables_make.proofs.archive_cuts.cut_all.Goals as goal

pub bases-init : goal.bases-init
bases-init g c =
    let first = state g.S.Store c.args.tx.now.conn.now in
    record {
      same_reference = refl;
      goes =
          λ clean. goes_first cut_objects (map string_bytes c.args.bases.now) first (c.requires.under_way clean)
          (c.requires.is_open clean);
      exists = c.requires.exists;
      uncut = c.requires.fits;
      among = λ clean p. all_among (CutRowsAt (contents_of first.now) p);
      left =
          λ clean. left_whole (RowsOf (CutRowsAt (contents_of first.now)) (map string_bytes c.args.bases.now))
          first.now;
      survives = survives_none first;
    }

pub cut-requires : goal.cut-requires
cut-requires g c = record {
  under_way =
      λ clean. under_after (state g.S.Store c.args.tx.now.conn.now) (state g.S.Store c.bases.tx.conn.now) _
      (c.bases.invariant.goes clean).changes;
  tables = λ clean up. (c.bases.invariant.exists clean, c.bases.invariant.uncut clean);
}

pub bases-preserved : goal.bases-preserved
bases-preserved g c =
    let first = state g.S.Store c.args.tx.now.conn.now in
    let now = state g.S.Store c.bases.tx.conn.now in
    let next = state g.S.Store c.cut.new.tx.conn.now in
    let was = contents_of now.now in
    let all = c.args.bases.now in
    let item = c.base-item.result in
    let left : List Path = map string_bytes (drop c.bases.base-index all) in
    let rest : List Path = map string_bytes (drop (c.bases.base-index + 1) all) in
    let split : left ≡ string_bytes item ∷ rest =
    ap (map string_bytes) (left_at all c.bases.base-index item c.bases-test.true c.base-item.is) in
    let same : cut_objects left was ≡ cut_objects rest (cut_object c.as_str.result.now was) =
    ap (λ (ps : List Path). cut_objects ps was) split
    ∙ ap (λ p. cut_objects rest (cut_object p was)) (sym c.as_str.ensures.value) in
    record {
      same_reference = c.in_ok-cut.ensures.frame.same_reference ∙ c.bases.invariant.same_reference;
      goes =
          λ clean. goes_next cut_objects (map string_bytes all) first now next left rest _
          (c.bases.invariant.goes (clean_before now next _ c.cut.ensures.frame.survives clean))
          (c.in_ok-cut.ensures.done clean) same;
      exists =
          λ clean. piece_after now next _ (c.in_ok-cut.ensures.done clean)
          (c.bases.invariant.exists (clean_before now next _ c.cut.ensures.frame.survives clean));
      uncut =
          λ clean. subst IsUncut (sym (c.in_ok-cut.ensures.done clean).contents)
          (uncut_next c.as_str.result.now was
          (c.bases.invariant.uncut (clean_before now next _ c.cut.ensures.frame.survives clean)));
      among =
          λ clean p. among_then (CutRowsAt (contents_of next.now) p) (CutRowsAt was p)
          (CutRowsAt (contents_of first.now) p)
          (subst (λ (x : Contents). AreAmong (CutRowsAt x p) (CutRowsAt was p))
          (sym (c.in_ok-cut.ensures.done clean).contents) (cut_among c.as_str.result.now was p))
          (c.bases.invariant.among (clean_before now next _ c.cut.ensures.frame.survives clean) p);
      left = λ clean.
          let early = clean_before now next _ c.cut.ensures.frame.survives clean in
          let own : Path → Rows = CutRowsAt (contents_of first.now) in
          let rows = RowsOf own (map string_bytes all) in
          let among = c.bases.invariant.among early (string_bytes item) in
          let on =
          subst (λ p. NumbersOn (CutRowsAt was p).count now.now next.now) c.as_str.ensures.value
          (c.in_ok-cut.ensures.numbers clean) in
          left_next rows (own (string_bytes item)) (RowsOf own rest) first.now now.now next.now
          (subst (λ ps. AreLeft rows (RowsOf own ps) first.now now.now) split (c.bases.invariant.left early))
          (c.bases.invariant.goes early).changes.schema
          (numbers_on_more (CutRowsAt was (string_bytes item)).count (own (string_bytes item)).count now.now next.now
          among.count on);
      survives = survives_both first now next c.bases.invariant.survives c.cut.ensures.frame.survives;
    }

pub returns : goal.returns
returns g c = record {
  frame =
      record {
        same_reference = c.bases.invariant.same_reference;
        failed = λ clean. tt;
        survives = c.bases.invariant.survives;
      };
  done = λ clean.
      let first = state g.S.Store c.args.tx.now.conn.now in
      let now = state g.S.Store c.bases.tx.conn.now in
      let all = c.args.bases.now in
      let end : c.bases.base-index ≡ length all = omega arith in
      let none = ap (λ n. map string_bytes (drop n all)) end ∙ ap (map string_bytes) (none_left all) in
      goes_done cut_objects (map string_bytes all) first now (map string_bytes (drop c.bases.base-index all))
      (ap (λ (ps : List Path). cut_objects ps (contents_of now.now)) none) (c.bases.invariant.goes clean);
  numbers =
      λ clean. numbers_of _ _ (state g.S.Store c.args.tx.now.conn.now).now (state g.S.Store c.bases.tx.conn.now).now
      (c.bases.invariant.left clean);
  cause = λ clean. tt;
}

pub returns-in_err-cut : goal.returns-in_err-cut
returns-in_err-cut g c = record {
  frame =
      done_fails g.S.Store c.args.tx.now.conn c.bases.tx.conn c.cut.new.tx.conn _ c.bases.invariant.same_reference
      (λ clean. (c.bases.invariant.goes clean).changes) c.bases.invariant.survives
      c.from_residual.result c.cut.ensures.frame.same_reference c.in_err-cut.ensures.frame.failed
      c.cut.ensures.frame.survives;
  done = λ clean. none_done c.from_residual.result _ _ c.from_residual.ensures.1;
  numbers = λ clean. none_done c.from_residual.result _ _ c.from_residual.ensures.1;
  cause = λ clean.
      let first = state g.S.Store c.args.tx.now.conn.now in
      let now = state g.S.Store c.bases.tx.conn.now in
      let next = state g.S.Store c.cut.new.tx.conn.now in
      let early = clean_before now next _ c.cut.ensures.frame.survives clean in
      let all = c.args.bases.now in
      let item = c.base-item.result in
      let path = string_bytes item in
      let rest : List Path = map string_bytes (drop (c.bases.base-index + 1) all) in
      let split : map string_bytes (drop c.bases.base-index all) ≡ path ∷ rest =
      ap (map string_bytes) (left_at all c.bases.base-index item c.bases-test.true c.base-item.is) in
      let own : Path → Rows = CutRowsAt (contents_of first.now) in
      let rows = RowsOf own (map string_bytes all) in
      let put = CutRowsAt (contents_of now.now) c.as_str.result.now in
      let among : AreAmong put (own path) =
      subst (λ p. AreAmong put (own p)) c.as_str.ensures.value
      (c.bases.invariant.among early c.as_str.result.now) in
      passed_on c.from_residual.result _ _ c.from_residual.ensures.1
      (next_reason rows (Both (own path) (RowsOf own rest)) first now next _ (c.bases.invariant.goes early).changes
      c.bases.invariant.survives (subst (λ ps. AreLeft rows (RowsOf own ps) first.now now.now) split
      (c.bases.invariant.left early)) _
      (more_reason put (Both (own path) (RowsOf own rest))
      (among_then put (own path) (Both (own path) (RowsOf own rest)) among
      (first_among (own path) (RowsOf own rest))) now next _ (c.in_err-cut.ensures.cause clean)));
}
