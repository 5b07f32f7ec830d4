use Rattle.std.proofs.Common.{List, map, string_bytes, sym, ap, ap₂, ◌∙◌}
use Rattle.std.proofs.lemmas.Bool.{false≢true}
use Rattle.std.specs.FinMap as finite
use Rattle.sqlite.specs.Held.{state}
use Rattle.tables_sql.specs.Contents.{Contents, contents_of}
use Rattle.tables_rows.proofs.Several.{left_then, memory_failed, one_failed, reads_done, reads_then, several_failed}
use Rattle.model.specs.World.{Path}
use Rattle.tables_outline.specs.Outline.{Outlined, OutlineValue}
use Rattle.tables_load_objects.specs.Loaded.{Objects, filled, with_objects}
use Rattle.tables_load_objects.proofs.ReadRows.{by_after, clean_before, joined_still}
use Rattle.tables_load_objects.proofs.Each.{as_asked}
use Rattle.tables_load_objects.proofs.Loads.{load_failed, load_stopped, load_done}
use Rattle.tables_load_objects.proofs.each_object.load_all.Goals as goal

pub load_each-requires : goal.load_each-requires
load_each-requires g c =
    let s0 = state g.S.Store c.args.conn.now in
    let s1 = state g.S.Store c.find.new.conn in
    let may =
    by_after c.args.schema c.args.conn.now c.find.new.conn c.find.ensures.found.frame
    (λ late. (c.in_ok-bases.ensures.found.reads late).0) c.requires.tables in
    record {
      frame = may.frame;
      opened = λ clean. (c.in_ok-bases.ensures.found.reads clean).0.0.is_open;
      pieces = may.pieces;
      joined =
          λ clean. joined_still s0 s1 c.args.joined.now (c.in_ok-bases.ensures.found.reads clean).0.0.now_is
          (c.requires.joined (clean_before s0 s1 (λ _. ⊥) c.find.ensures.found.frame.survives clean));
      ahead = λ _. tt;
    }

pub returns-in_err-bases : goal.returns-in_err-bases
returns-in_err-bases g c =
    load_failed _ _ _ _ _ c.from_residual.result _ c.from_residual.ensures.1
    (one_failed _ _ c.from_residual.result _ c.from_residual.ensures.1 c.find.ensures.found.frame
    c.in_err-bases.ensures.found.cause)

pub returns-in_err-paths : goal.returns-in_err-paths
returns-in_err-paths g c =
    load_failed _ _ _ _ _ c.from_residual-in_err-paths.result _ c.from_residual-in_err-paths.ensures.1
    (memory_failed _ _ c.from_residual-in_err-paths.result c.from_residual-in_err-paths.ensures.1
    c.find.ensures.found.frame)

pub returns-in_err-load_each : goal.returns-in_err-load_each
returns-in_err-load_each g c =
    load_failed _ _ _ _ _ c.from_residual-in_err-load_each.result _ c.from_residual-in_err-load_each.ensures.1
    (reads_then c.args.conn.now c.find.new.conn c.load_each.new.conn c.from_residual-in_err-load_each.result
    c.find.ensures.found.frame (λ clean. (c.in_ok-bases.ensures.found.reads clean).0)
    (several_failed _ _ _ _ c.from_residual-in_err-load_each.ensures.1 c.load_each.ensures.read.frame
    c.in_err-load_each.ensures.read.cause))

pub returns-then-not-branch : goal.returns-then-not-branch
returns-then-not-branch g c =
    let s0 = state g.S.Store c.args.conn.now in
    let s1 = state g.S.Store c.find.new.conn in
    let s2 = state g.S.Store c.load_each.new.conn in
    load_stopped _ _ _ _ _
    (reads_done _ _ _ _ (reads_then c.args.conn.now c.find.new.conn c.load_each.new.conn _ c.find.ensures.found.frame
    (λ clean. (c.in_ok-bases.ensures.found.reads clean).0) c.in_ok-load_each.ensures.read))
    (λ clean sound.
    let read =
    c.in_ok-bases.ensures.found.reads (clean_before s1 s2 (λ _. ⊥) c.load_each.ensures.read.frame.survives clean) in
    false≢true (sym c.if-not-branch.true
    ∙ (as_asked c.args.schema c.args.dir.now (contents_of s1.now) (contents_of s0.now)
    (map string_bytes c.deref-2.result.now) (ap contents_of read.0.0.now_is)
    (ap (map string_bytes) c.deref-2.ensures.value ∙ read.1) _ (c.in_ok-load_each.ensures.reported clean)).1
    sound))

pub returns-in_err-set_objects : goal.returns-in_err-set_objects
returns-in_err-set_objects g c =
    load_failed _ _ _ _ _ c.from_residual-in_err-set_objects.result _ c.from_residual-in_err-set_objects.ensures.1
    (memory_failed _ _ c.from_residual-in_err-set_objects.result c.from_residual-in_err-set_objects.ensures.1
    (left_then c.args.conn.now c.find.new.conn c.load_each.new.conn c.find.ensures.found.frame
    c.load_each.ensures.read.frame))

pub returns : goal.returns
returns g c =
    let s0 = state g.S.Store c.args.conn.now in
    let s1 = state g.S.Store c.find.new.conn in
    let s2 = state g.S.Store c.load_each.new.conn in
    load_done _ _ _ _ _
    (reads_done _ _ _ _ (reads_then c.args.conn.now c.find.new.conn c.load_each.new.conn _ c.find.ensures.found.frame
    (λ clean. (c.in_ok-bases.ensures.found.reads clean).0) c.in_ok-load_each.ensures.read))
    (λ clean.
    let read =
    c.in_ok-bases.ensures.found.reads (clean_before s1 s2 (λ _. ⊥) c.load_each.ensures.read.frame.survives clean) in
    (as_asked c.args.schema c.args.dir.now (contents_of s1.now) (contents_of s0.now)
    (map string_bytes c.deref-2.result.now) (ap contents_of read.0.0.now_is)
    (ap (map string_bytes) c.deref-2.ensures.value ∙ read.1) _ (c.in_ok-load_each.ensures.reported clean)).0
    c.if-not-branch.false)
    (λ clean.
    let read =
    c.in_ok-bases.ensures.found.reads (clean_before s1 s2 (λ _. ⊥) c.load_each.ensures.read.frame.survives clean) in
    let old : OutlineValue = c.args.outline.now in
    let ps : List Path = map string_bytes c.deref-2.result.now in
    c.in_ok-set_objects.ensures.done
    ∙ ap (λ (m : Objects). record old { objects = m }) (
    c.in_ok-load_each.ensures.loaded clean c.if-not-branch.false
    ∙ ap (λ (l : List (Path × Outlined)). with_objects (contents_of s1.now) ps (filled l)) c.new-found.ensures.items
    ∙ ap₂ (λ (x : Contents) (l : List Path). with_objects x l finite.empty) (ap contents_of read.0.0.now_is)
    (ap (map string_bytes) c.deref-2.ensures.value ∙ read.1)))
