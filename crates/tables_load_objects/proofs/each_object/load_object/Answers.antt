use Rattle.std.proofs.Common.{◌≡◌, List, map, string_bytes, subst, ◌∙◌}
use Rattle.std.specs.List.{filter}
use Rattle.std.specs.Ordering.{eq_by_cmp}
use Rattle.sqlite.specs.Held.{state}
use Rattle.paths.specs.Root.{bytes_cmp}
use Rattle.tables_rows.specs.declared.references.Reference.{Reference}
use Rattle.tables_rows.specs.declared.outputs.Output.{Output}
use Rattle.tables_sql.specs.Contents.{contents_of}
use Rattle.tables_rows.proofs.Several.{memory_failed, several_failed, finds_alone, reads_done}
use Rattle.tables_load_objects.specs.Rising.{Rises}
use Rattle.tables_load_objects.specs.Rows.{AreRowsOf, AreRowsAt}
use Rattle.tables_load_objects.specs.Loaded.{filled}
use Rattle.tables_load_objects.proofs.Columns.{targets_used, named_used}
use Rattle.tables_load_objects.proofs.Loads.{load_failed, load_stopped}
use Rattle.tables_load_objects.proofs.ReadRows.{clean_before}
use Rattle.tables_load_objects.proofs.Takes.{no_object, reported_one, put_is}
use Rattle.tables_load_objects.proofs.each_object.load_object.Goals as goal

pub returns-in_err-rows-clause-object : goal.returns-in_err-rows-clause-object
returns-in_err-rows-clause-object g c =
    load_failed _ _ _ _ _ c.from_residual.result _ c.from_residual.ensures.1
    (several_failed _ _ c.from_residual.result _ c.from_residual.ensures.1 c.rows_at.ensures.frame
    c.in_err-rows.ensures.cause)

pub returns-in_default-clause-object : goal.returns-in_default-clause-object
returns-in_default-clause-object g c =
    let x = contents_of (state g.S.Store c.args.conn.now).now in
    let p = c.args.base.now in
    load_stopped _ _ _ _ _ (reads_done _ _ _ _ (finds_alone _ _ _ _ c.in_ok-rows.ensures))
    (λ clean. no_object c.args.source.now.schema c.args.source.now.dir.now x p
    (subst (AreRowsAt x p) c.in_default.is (c.in_ok-rows.ensures.reads clean).1.0))

pub returns-in_err-load_rows-clause-object : goal.returns-in_err-load_rows-clause-object
returns-in_err-load_rows-clause-object g c =
    load_failed _ _ _ _ _ c.from_residual-in_err-load_rows.result _ c.from_residual-in_err-load_rows.ensures.1
    (memory_failed _ _ c.from_residual-in_err-load_rows.result c.from_residual-in_err-load_rows.ensures.1
    c.rows_at.ensures.frame)

pub returns-clause-object : goal.returns-clause-object
returns-clause-object g c =
    let s0 = state g.S.Store c.args.conn.now in
    let s1 = state g.S.Store c.rows_at.new.conn in
    let x = contents_of s0.now in
    let p = c.args.base.now in
    let schema = c.args.source.now.schema in
    let joined = c.args.source.now.joined.now in
    let refs = c.group-references.result.now in
    let outs = c.group-outputs.result.now in
    record {
      read = reads_done _ _ _ _ (finds_alone _ _ _ _ c.in_ok-rows.ensures);
      reported = λ clean.
          let rows : AreRowsOf x p c.in-Some.rows =
          subst (AreRowsAt x p) c.in-Some.is (c.in_ok-rows.ensures.reads clean).1.0 in
          let all = c.requires.joined (clean_before s0 s1 (λ _. ⊥) c.rows_at.ensures.frame.survives clean) in
          let refs_are = targets_used x p joined.references.items refs all.references
          (subst (λ (l : List Reference). Rises (map (λ (r : Reference). string_bytes r.base) l)
          → refs ≡ filter (λ (r : Reference). eq_by_cmp bytes_cmp p (string_bytes r.base)) l)
          c.deref.ensures.value c.group-references.ensures) in
          let outs_are = named_used x p joined.outputs.items outs all.outputs
          (subst (λ (l : List Output). Rises (map (λ (r : Output). string_bytes r.base) l)
          → outs ≡ filter (λ (r : Output). eq_by_cmp bytes_cmp p (string_bytes r.base)) l)
          c.deref-2.ensures.value c.group-outputs.ensures) in
          reported_one schema c.args.source.now.dir.now x p c.in-Some.rows rows refs outs refs_are outs_are
          c.in_ok-load_rows.field-0 c.in_ok-load_rows.ensures.reported;
      loaded = λ clean ok.
          let rows : AreRowsOf x p c.in-Some.rows =
          subst (AreRowsAt x p) c.in-Some.is (c.in_ok-rows.ensures.reads clean).1.0 in
          let all = c.requires.joined (clean_before s0 s1 (λ _. ⊥) c.rows_at.ensures.frame.survives clean) in
          let refs_are = targets_used x p joined.references.items refs all.references
          (subst (λ (l : List Reference). Rises (map (λ (r : Reference). string_bytes r.base) l)
          → refs ≡ filter (λ (r : Reference). eq_by_cmp bytes_cmp p (string_bytes r.base)) l)
          c.deref.ensures.value c.group-references.ensures) in
          let outs_are = named_used x p joined.outputs.items outs all.outputs
          (subst (λ (l : List Output). Rises (map (λ (r : Output). string_bytes r.base) l)
          → outs ≡ filter (λ (r : Output). eq_by_cmp bytes_cmp p (string_bytes r.base)) l)
          c.deref-2.ensures.value c.group-outputs.ensures) in
          c.in_ok-load_rows.ensures.loaded ok
          ∙ put_is schema c.args.source.now.dir.now x p c.in-Some.rows rows refs outs refs_are outs_are
          (filled c.args.found.now.items) (c.in_ok-load_rows.ensures.reported.0 ok);
    }

pub returns-in_default-clause-ahead : goal.returns-in_default-clause-ahead
returns-in_default-clause-ahead g c clean = (c.in_ok-rows.ensures.reads clean).1.1

pub returns-clause-ahead : goal.returns-clause-ahead
returns-clause-ahead g c clean = (c.in_ok-rows.ensures.reads clean).1.1
