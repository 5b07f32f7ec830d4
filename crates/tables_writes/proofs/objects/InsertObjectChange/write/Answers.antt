use Rattle.std.proofs.Common.{◌≡◌, ℕ, List, [], ◌∷◌, drop, map, sym, ap₂, subst, subst₂, arith, ◌∙◌, string_bytes}
use Rattle.std.specs.Prelude.{ℤ}
use Rattle.std.specs.List.{zip}
use Rattle.std.specs.FinMap as finite
use Rattle.sqlite_value.specs.declared.value.Value.TheVariants.{Text, Blob}
use Rattle.sqlite_value.specs.Order.{Row}
use Rattle.sqlite.specs.Effect.{Database}
use Rattle.sqlite.specs.State.{HasCleanDisk}
use Rattle.sqlite.specs.Held.{state}
use Rattle.tables_sql.specs.Contents.{Contents, contents_of}
use Rattle.tables_rows.specs.Entries.{stored, text_or_null}
use Rattle.tables_sql.specs.Rowids.{NumbersOn}
use Rattle.model.specs.World.{Path}
use Rattle.tables_world.specs.Pieces.{piece_size, row_part, further_pieces}
use Rattle.tables_world.proofs.Migrating.{rising}
use Rattle.tables_writes.specs.Rewritten.{AreFree, put_object}
use Rattle.tables_rows.specs.Reasons.{Rows, AreAmong, Both, RowsOf}
use Rattle.tables_rows.specs.ObjectRows.{ObjectRow, PieceRow}
use Rattle.tables_writes.specs.RowsPut.{ReferenceRow, OutputRow, ObjectRows}
use Rattle.tables_writes.proofs.Cuts.{row_part_is}
use Rattle.tables_writes.proofs.Free.{outputs_free, pieces_free, references_free}
use Rattle.tables_writes.proofs.Lists.{zipped, keys_count}
use Rattle.tables_rows.proofs.Reasons.{AreLeft, as_reason, first_among, is_none, left_next, more_reason, next_reason}
use Rattle.tables_rows.proofs.Reasons.{put_open, row_among, second_left, text_same}
use Rattle.tables_sql.proofs.Transactions.{done_both, failed_next, steps_both}
use Rattle.tables_sql.proofs.Steps.{under_after}
use Rattle.tables_rows.proofs.Failing.{err_kept}
use Rattle.tables_sql.proofs.TestFailures.{passed_on, survives_both}
use Rattle.tables_writes.proofs.Transactions.{pieces_exist}
use Rattle.tables_writes.proofs.objects.InsertObjectChange.write.Goals as goal

pub put_outputs-requires-clause-count : goal.put_outputs-requires-clause-count
put_outputs-requires-clause-count g c =
    keys_count c.args.self.now.object.now.outputs c.names.result.now c.outputs.result.now c.names.ensures
    c.outputs.ensures

pub put_references-requires : goal.put_references-requires
put_references-requires g c = record {
  under_way = λ clean.
      under_after (state g.S.Store c.args.tx.now.conn.now) (state g.S.Store c.insert.new.tx.conn.now) _
      (c.in_ok-insert.ensures.done clean);
  is_open = λ clean. (c.in_ok-insert.ensures.done clean).is_open;
  fits = λ clean.
      let it = c.args.self.now in
      let a = state g.S.Store c.args.tx.now.conn.now in
      let b = state g.S.Store c.insert.new.tx.conn.now in
      let done = c.in_ok-insert.ensures.done clean in
      let early : HasCleanDisk a = omega (arith, c.insert.ensures.frame.survives.clean, clean) in
      subst₂ (λ (x : Contents) ts. AreFree x.refs (map (λ (t : Path). (it.base.now, t)) ts)) (sym done.contents)
      (sym c.references.ensures) (references_free it.base.now (contents_of a.now).refs it.object.now.references
      (c.requires.fits early done.was_open).references);
}

pub returns-in_err-put_references-clause-frame : goal.returns-in_err-put_references-clause-frame
returns-in_err-put_references-clause-frame g c =
    record {
      same_reference = c.put_references.ensures.frame.same_reference ∙ c.insert.ensures.frame.same_reference;
      failed =
          λ clean. err_kept (state g.S.Store c.args.tx.now.conn.now) (state g.S.Store c.insert.new.tx.conn.now)
          (state g.S.Store c.put_references.new.tx.conn.now) _ c.from_residual-in_err-put_references.result
          c.in_ok-insert.ensures.done c.put_references.ensures.frame.survives
          (c.in_err-put_references.ensures.frame.failed clean) clean;
      survives =
          survives_both (state g.S.Store c.args.tx.now.conn.now) (state g.S.Store c.insert.new.tx.conn.now)
          (state g.S.Store c.put_references.new.tx.conn.now) c.insert.ensures.frame.survives
          c.put_references.ensures.frame.survives;
    }

pub put_outputs-requires-clause-frame : goal.put_outputs-requires-clause-frame
put_outputs-requires-clause-frame g c = record {
  under_way = λ clean.
      let a = state g.S.Store c.args.tx.now.conn.now in
      let b = state g.S.Store c.insert.new.tx.conn.now in
      let d = state g.S.Store c.put_references.new.tx.conn.now in
      under_after a d _ (steps_both a b d _ _ c.in_ok-insert.ensures.done c.put_references.ensures.frame.survives
      c.in_ok-put_references.ensures.done clean);
  is_open = λ clean.
      let a = state g.S.Store c.args.tx.now.conn.now in
      let b = state g.S.Store c.insert.new.tx.conn.now in
      let d = state g.S.Store c.put_references.new.tx.conn.now in
      (steps_both a b d _ _ c.in_ok-insert.ensures.done c.put_references.ensures.frame.survives
      c.in_ok-put_references.ensures.done clean).is_open;
  fits = λ clean.
      let it = c.args.self.now in
      let a = state g.S.Store c.args.tx.now.conn.now in
      let b = state g.S.Store c.insert.new.tx.conn.now in
      let d = state g.S.Store c.put_references.new.tx.conn.now in
      let done =
      steps_both a b d _ _ c.in_ok-insert.ensures.done c.put_references.ensures.frame.survives
      c.in_ok-put_references.ensures.done clean in
      let early : HasCleanDisk a =
      omega (arith, c.insert.ensures.frame.survives.clean, c.put_references.ensures.frame.survives.clean, clean) in
      let entries = finite.entries it.object.now.outputs in
      subst₂ (λ (x : Contents) es. AreFree x.outs (map (λ (o : List ℕ × Path). (it.base.now, o.0)) es))
      (sym done.contents) (sym (ap₂ zip c.names.ensures c.outputs.ensures ∙ zipped entries))
      (outputs_free it.base.now (contents_of a.now).outs entries (c.requires.fits early done.was_open).outputs
      (finite.entries_sorted it.object.now.outputs));
}

pub returns-in_err-put_outputs-clause-frame : goal.returns-in_err-put_outputs-clause-frame
returns-in_err-put_outputs-clause-frame g c =
    let a = state g.S.Store c.args.tx.now.conn.now in
    let b = state g.S.Store c.insert.new.tx.conn.now in
    let d = state g.S.Store c.put_references.new.tx.conn.now in
    let e = state g.S.Store c.put_outputs.new.tx.conn.now in
    record {
      same_reference =
          c.put_outputs.ensures.frame.same_reference ∙ c.put_references.ensures.frame.same_reference
          ∙ c.insert.ensures.frame.same_reference;
      failed =
          λ clean. err_kept a d e _ c.from_residual-in_err-put_outputs.result
          (steps_both a b d _ _ c.in_ok-insert.ensures.done c.put_references.ensures.frame.survives
          c.in_ok-put_references.ensures.done) c.put_outputs.ensures.frame.survives
          (c.in_err-put_outputs.ensures.frame.failed clean) clean;
      survives =
          survives_both a d e (survives_both a b d c.insert.ensures.frame.survives
          c.put_references.ensures.frame.survives) c.put_outputs.ensures.frame.survives;
    }

pub put_pieces-requires : goal.put_pieces-requires
put_pieces-requires g c = record {
  under_way = λ clean.
      let a = state g.S.Store c.args.tx.now.conn.now in
      let b = state g.S.Store c.insert.new.tx.conn.now in
      let d = state g.S.Store c.put_references.new.tx.conn.now in
      let e = state g.S.Store c.put_outputs.new.tx.conn.now in
      under_after a e _ (steps_both a d e _ _
      (steps_both a b d _ _ c.in_ok-insert.ensures.done c.put_references.ensures.frame.survives
      c.in_ok-put_references.ensures.done) c.put_outputs.ensures.frame.survives c.in_ok-put_outputs.ensures.done
      clean);
  is_open = λ clean.
      let a = state g.S.Store c.args.tx.now.conn.now in
      let b = state g.S.Store c.insert.new.tx.conn.now in
      let d = state g.S.Store c.put_references.new.tx.conn.now in
      let e = state g.S.Store c.put_outputs.new.tx.conn.now in
      (steps_both a d e _ _ (steps_both a b d _ _ c.in_ok-insert.ensures.done c.put_references.ensures.frame.survives
      c.in_ok-put_references.ensures.done) c.put_outputs.ensures.frame.survives c.in_ok-put_outputs.ensures.done
      clean).is_open;
  exists = λ clean.
      let a = state g.S.Store c.args.tx.now.conn.now in
      let b = state g.S.Store c.insert.new.tx.conn.now in
      let d = state g.S.Store c.put_references.new.tx.conn.now in
      let e = state g.S.Store c.put_outputs.new.tx.conn.now in
      pieces_exist a e _ (steps_both a d e _ _
      (steps_both a b d _ _ c.in_ok-insert.ensures.done c.put_references.ensures.frame.survives
      c.in_ok-put_references.ensures.done) c.put_outputs.ensures.frame.survives
      c.in_ok-put_outputs.ensures.done)
      (survives_both a d e (survives_both a b d c.insert.ensures.frame.survives c.put_references.ensures.frame.survives)
      c.put_outputs.ensures.frame.survives) (λ early is_open. (c.requires.whole early is_open).pieces) clean;
  fits = λ clean.
      let it = c.args.self.now in
      let a = state g.S.Store c.args.tx.now.conn.now in
      let b = state g.S.Store c.insert.new.tx.conn.now in
      let d = state g.S.Store c.put_references.new.tx.conn.now in
      let e = state g.S.Store c.put_outputs.new.tx.conn.now in
      let done =
      steps_both a d e _ _ (steps_both a b d _ _ c.in_ok-insert.ensures.done c.put_references.ensures.frame.survives
      c.in_ok-put_references.ensures.done) c.put_outputs.ensures.frame.survives c.in_ok-put_outputs.ensures.done
      clean in
      let early : HasCleanDisk a =
      omega (
        arith,
        c.insert.ensures.frame.survives.clean,
        c.put_references.ensures.frame.survives.clean,
        c.put_outputs.ensures.frame.survives.clean,
        clean,
      ) in
      subst (λ (x : Contents). AreFree x.pieces
      (map (λ (p : ℤ × List ℕ). (it.base.now, p.0)) (further_pieces it.nar.now))) (sym done.contents)
      (pieces_free it.base.now (contents_of a.now).pieces (further_pieces it.nar.now)
      (c.requires.fits early done.was_open).pieces (rising it.nar.now 1 (drop piece_size it.nar.now)));
}

pub returns-clause-frame : goal.returns-clause-frame
returns-clause-frame g c =
    let a = state g.S.Store c.args.tx.now.conn.now in
    let b = state g.S.Store c.insert.new.tx.conn.now in
    let d = state g.S.Store c.put_references.new.tx.conn.now in
    let e = state g.S.Store c.put_outputs.new.tx.conn.now in
    record {
      same_reference =
          c.put_pieces.ensures.frame.same_reference ∙ c.put_outputs.ensures.frame.same_reference
          ∙ c.put_references.ensures.frame.same_reference ∙ c.insert.ensures.frame.same_reference;
      failed =
          failed_next a e (state g.S.Store c.put_pieces.new.tx.conn.now) _ (λ x. x)
          (steps_both a d e _ _ (steps_both a b d _ _ c.in_ok-insert.ensures.done
          c.put_references.ensures.frame.survives c.in_ok-put_references.ensures.done)
          c.put_outputs.ensures.frame.survives c.in_ok-put_outputs.ensures.done) c.put_pieces.ensures.frame.survives
          c.put_pieces.result c.put_pieces.ensures.frame.failed;
      survives =
          survives_both a e (state g.S.Store c.put_pieces.new.tx.conn.now)
          (survives_both a d e (survives_both a b d c.insert.ensures.frame.survives
          c.put_references.ensures.frame.survives) c.put_outputs.ensures.frame.survives)
          c.put_pieces.ensures.frame.survives;
    }

pub returns-clause-done : goal.returns-clause-done
returns-clause-done g c =
    let it = c.args.self.now in
    let a = state g.S.Store c.args.tx.now.conn.now in
    let b = state g.S.Store c.insert.new.tx.conn.now in
    let d = state g.S.Store c.put_references.new.tx.conn.now in
    let e = state g.S.Store c.put_outputs.new.tx.conn.now in
    done_both a e (state g.S.Store c.put_pieces.new.tx.conn.now) _ _
    (steps_both a d e _ _ (steps_both a b d _ _ c.in_ok-insert.ensures.done c.put_references.ensures.frame.survives
    c.in_ok-put_references.ensures.done) c.put_outputs.ensures.frame.survives c.in_ok-put_outputs.ensures.done)
    c.put_pieces.ensures.frame.survives
    c.put_pieces.result _ (λ x i. put_object it.base.now
    (stored ((c.first.ensures ∙ row_part_is it.nar.now) i) (c.hash.ensures i) it.texts.now.deriver
    it.texts.now.ca) (c.references.ensures i)
    ((ap₂ zip c.names.ensures c.outputs.ensures ∙ zipped (finite.entries it.object.now.outputs)) i)
    (further_pieces it.nar.now) x) c.put_pieces.ensures.done

-- ---- why it failed

-- what is left of an object's rows as they are put
module _ (object references outputs pieces : Rows) (a b : Database) (put : NumbersOn object.count a b) where
  after_object : AreLeft (Both object (Both references (Both outputs pieces))) (Both references (Both outputs pieces)) a
      b
  after_object = second_left object (Both references (Both outputs pieces)) a b put

  module _ (d : Database) (same : b.schema ≡ a.schema) (next : NumbersOn references.count b d) where
    after_references : AreLeft (Both object (Both references (Both outputs pieces))) (Both outputs pieces) a d
    after_references =
        left_next (Both object (Both references (Both outputs pieces))) references (Both outputs pieces) a b d
        after_object same next

    after_outputs : (e : Database) → d.schema ≡ a.schema → NumbersOn outputs.count d e
        → AreLeft (Both object (Both references (Both outputs pieces))) pieces a e
    after_outputs e same =
        left_next (Both object (Both references (Both outputs pieces))) outputs pieces a d e after_references same

pub returns-in_err-insert-clause-cause : goal.returns-in_err-insert-clause-cause
returns-in_err-insert-clause-cause g c clean =
    let it = c.args.self.now in
    let a = state g.S.Store c.args.tx.now.conn.now in
    let b = state g.S.Store c.insert.new.tx.conn.now in
    let row : Row =
    Text it.base.now ∷ Blob c.first.result.now ∷ Blob c.hash.result.now ∷ text_or_null it.texts.now.deriver
    ∷ text_or_null it.texts.now.ca ∷ [] in
    let is : row ≡ _ =
    λ i. Text it.base.now ∷ Blob ((c.first.ensures ∙ row_part_is it.nar.now) i) ∷ Blob (c.hash.ensures i)
    ∷ text_same it.texts.now.deriver i ∷ text_same it.texts.now.ca i ∷ [] in
    let early : HasCleanDisk a = omega (arith, c.insert.ensures.frame.survives.clean, clean) in
    let pieces = RowsOf (PieceRow it.base.now) (further_pieces it.nar.now) in
    let rest =
    Both (RowsOf (ReferenceRow it.base.now) (finite.keys it.object.now.references))
    (Both (RowsOf (OutputRow it.base.now) (finite.entries it.object.now.outputs)) pieces) in
    passed_on c.from_residual.result _ _ c.from_residual.ensures.1
    (put_open (ObjectRows it.base.now
    (stored (row_part it.nar.now) it.object.now.hash it.texts.now.deriver it.texts.now.ca)
    (finite.keys it.object.now.references) (finite.entries it.object.now.outputs) (further_pieces it.nar.now)) a
    b _ row _ (row_among _ row _ rest is) (λ up. is_none _ (c.requires.fits early up).object) _
    (c.in_err-insert.ensures.cause clean))

pub returns-in_err-put_references-clause-cause : goal.returns-in_err-put_references-clause-cause
returns-in_err-put_references-clause-cause g c clean =
    let it = c.args.self.now in
    let a = state g.S.Store c.args.tx.now.conn.now in
    let b = state g.S.Store c.insert.new.tx.conn.now in
    let d = state g.S.Store c.put_references.new.tx.conn.now in
    let late : HasCleanDisk b = omega (arith, c.put_references.ensures.frame.survives.clean, clean) in
    let object =
    ObjectRow it.base.now (stored (row_part it.nar.now) it.object.now.hash it.texts.now.deriver it.texts.now.ca) in
    let references = RowsOf (ReferenceRow it.base.now) (finite.keys it.object.now.references) in
    let outputs = RowsOf (OutputRow it.base.now) (finite.entries it.object.now.outputs) in
    let pieces = RowsOf (PieceRow it.base.now) (further_pieces it.nar.now) in
    let given = RowsOf (ReferenceRow it.base.now) c.references.result.now in
    let rest = Both references (Both outputs pieces) in
    let among =
    subst (λ ts. AreAmong given (Both (RowsOf (ReferenceRow it.base.now) ts) (Both outputs pieces)))
    c.references.ensures (first_among given (Both outputs pieces)) in
    passed_on c.from_residual-in_err-put_references.result _ _ c.from_residual-in_err-put_references.ensures.1
    (next_reason (Both object rest) rest a b d _ (c.in_ok-insert.ensures.done late) c.insert.ensures.frame.survives
    (after_object object references outputs pieces a.now b.now (c.in_ok-insert.ensures.numbers late)) _
    (more_reason given rest among b d _ (c.in_err-put_references.ensures.cause clean)))

pub returns-in_err-put_outputs-clause-cause : goal.returns-in_err-put_outputs-clause-cause
returns-in_err-put_outputs-clause-cause g c clean =
    let it = c.args.self.now in
    let a = state g.S.Store c.args.tx.now.conn.now in
    let b = state g.S.Store c.insert.new.tx.conn.now in
    let d = state g.S.Store c.put_references.new.tx.conn.now in
    let e = state g.S.Store c.put_outputs.new.tx.conn.now in
    let late : HasCleanDisk d = omega (arith, c.put_outputs.ensures.frame.survives.clean, clean) in
    let early : HasCleanDisk b = omega (arith, c.put_references.ensures.frame.survives.clean, late) in
    let entries = finite.entries it.object.now.outputs in
    let object =
    ObjectRow it.base.now (stored (row_part it.nar.now) it.object.now.hash it.texts.now.deriver it.texts.now.ca) in
    let references = RowsOf (ReferenceRow it.base.now) (finite.keys it.object.now.references) in
    let outputs = RowsOf (OutputRow it.base.now) entries in
    let pieces = RowsOf (PieceRow it.base.now) (further_pieces it.nar.now) in
    let given = RowsOf (OutputRow it.base.now) (zip (map string_bytes c.names.result.now) c.outputs.result.now) in
    let among =
    subst (λ es. AreAmong given (Both (RowsOf (OutputRow it.base.now) es) pieces))
    (ap₂ zip c.names.ensures c.outputs.ensures ∙ zipped entries) (first_among given pieces) in
    let on =
    subst (λ ts. NumbersOn (RowsOf (ReferenceRow it.base.now) ts).count b.now d.now) c.references.ensures
    (c.in_ok-put_references.ensures.numbers late) in
    passed_on c.from_residual-in_err-put_outputs.result _ _ c.from_residual-in_err-put_outputs.ensures.1
    (next_reason (Both object (Both references (Both outputs pieces))) (Both outputs pieces) a d e _
    (steps_both a b d _ _ c.in_ok-insert.ensures.done c.put_references.ensures.frame.survives
    c.in_ok-put_references.ensures.done late)
    (survives_both a b d c.insert.ensures.frame.survives c.put_references.ensures.frame.survives)
    (after_references object references outputs pieces a.now b.now (c.in_ok-insert.ensures.numbers early) d.now
    (c.in_ok-insert.ensures.done early).schema on) _
    (more_reason given (Both outputs pieces) among d e _ (c.in_err-put_outputs.ensures.cause clean)))

pub returns-clause-cause : goal.returns-clause-cause
returns-clause-cause g c clean =
    let it = c.args.self.now in
    let a = state g.S.Store c.args.tx.now.conn.now in
    let b = state g.S.Store c.insert.new.tx.conn.now in
    let d = state g.S.Store c.put_references.new.tx.conn.now in
    let e = state g.S.Store c.put_outputs.new.tx.conn.now in
    let f = state g.S.Store c.put_pieces.new.tx.conn.now in
    let late : HasCleanDisk e = omega (arith, c.put_pieces.ensures.frame.survives.clean, clean) in
    let early : HasCleanDisk d = omega (arith, c.put_outputs.ensures.frame.survives.clean, late) in
    let first : HasCleanDisk b = omega (arith, c.put_references.ensures.frame.survives.clean, early) in
    let entries = finite.entries it.object.now.outputs in
    let object =
    ObjectRow it.base.now (stored (row_part it.nar.now) it.object.now.hash it.texts.now.deriver it.texts.now.ca) in
    let references = RowsOf (ReferenceRow it.base.now) (finite.keys it.object.now.references) in
    let outputs = RowsOf (OutputRow it.base.now) entries in
    let pieces = RowsOf (PieceRow it.base.now) (further_pieces it.nar.now) in
    let on =
    subst (λ ts. NumbersOn (RowsOf (ReferenceRow it.base.now) ts).count b.now d.now) c.references.ensures
    (c.in_ok-put_references.ensures.numbers early) in
    let more =
    subst (λ es. NumbersOn (RowsOf (OutputRow it.base.now) es).count d.now e.now)
    (ap₂ zip c.names.ensures c.outputs.ensures ∙ zipped entries) (c.in_ok-put_outputs.ensures.numbers late) in
    let two =
    steps_both a b d _ _ c.in_ok-insert.ensures.done c.put_references.ensures.frame.survives
    c.in_ok-put_references.ensures.done early in
    as_reason _ _ (next_reason (Both object (Both references (Both outputs pieces))) pieces a e f _
    (steps_both a d e _ _ (steps_both a b d _ _ c.in_ok-insert.ensures.done c.put_references.ensures.frame.survives
    c.in_ok-put_references.ensures.done) c.put_outputs.ensures.frame.survives c.in_ok-put_outputs.ensures.done
    late)
    (survives_both a d e (survives_both a b d c.insert.ensures.frame.survives c.put_references.ensures.frame.survives)
    c.put_outputs.ensures.frame.survives)
    (after_outputs object references outputs pieces a.now b.now (c.in_ok-insert.ensures.numbers first) d.now
    (c.in_ok-insert.ensures.done first).schema on e.now two.schema more)) c.put_pieces.result
    (c.put_pieces.ensures.cause clean)
