use Rattle.std.proofs.Common.{◌≡◌, map, ◌&&◌, sym, ap, subst, ◌∙◌}
use Rattle.std.specs.List.{list_all, AllByRecursion}
use Rattle.std.specs.FinMap as finite
use Rattle.std.proofs.lemmas.Bool.{false≢true}
use Rattle.sqlite.specs.Held.{state}
use Rattle.tables_rows.specs.Entries.{numbered_in, output_of, reference_of}
use Rattle.tables_sql.specs.Contents.{Contents, contents_of}
use Rattle.tables_rows.proofs.Several.{left_then, memory_failed, several_failed, reads_done, reads_then}
use Rattle.tables_world.specs.Worlds.{world_in}
use Rattle.tables_outline.specs.Outline.{OutlineValue, outline_of}
use Rattle.tables_load_objects.specs.declared.joined.Joined.{Joined}
use Rattle.tables_load_objects.specs.Rows.{AreJoined}
use Rattle.tables_load_objects.specs.Loaded.{Objects, IsSoundOne, with_objects, is_reference, is_output, is_owned}
use Rattle.tables_load_objects.proofs.ReadRows.{by_after, clean_before, joined_still}
use Rattle.tables_load_objects.proofs.AllObjects.{put_all_objects}
use Rattle.tables_load_objects.proofs.AllTests.{rows_of_all, cut_of_all, all_of_rows, to_objects, of_objects}
use Rattle.tables_load_objects.proofs.Loads.{load_failed, load_stopped}
use Rattle.tables_load_objects.proofs.load.load_objects.Goals as goal

pub load_all-requires-clause-tables : goal.load_all-requires-clause-tables
load_all-requires-clause-tables g c =
    by_after c.args.schema c.args.conn.now c.read_joined.new.conn c.read_joined.ensures.frame
    (λ clean. (c.in_ok-joined.ensures.reads clean).0) c.requires

pub load_all-requires-clause-joined : goal.load_all-requires-clause-joined
load_all-requires-clause-joined g c clean =
    let s0 = state g.S.Store c.args.conn.now in
    let s1 = state g.S.Store c.read_joined.new.conn in
    let read = c.in_ok-joined.ensures.reads clean in
    joined_still s0 s1 c.in_ok-joined.joined read.0.0.now_is read.1

pub returns-in_err-joined : goal.returns-in_err-joined
returns-in_err-joined g c =
    load_failed _ _ _ _ _ c.from_residual.result _ c.from_residual.ensures.1
    (several_failed _ _ c.from_residual.result _ c.from_residual.ensures.1 c.read_joined.ensures.frame
    c.in_err-joined.ensures.cause)

pub returns-in_err-load_all : goal.returns-in_err-load_all
returns-in_err-load_all g c =
    load_failed _ _ _ _ _ c.from_residual-in_err-load_all.result _ c.from_residual-in_err-load_all.ensures.1
    (reads_then c.args.conn.now c.read_joined.new.conn c.load_all.new.conn c.from_residual-in_err-load_all.result
    c.read_joined.ensures.frame (λ clean. (c.in_ok-joined.ensures.reads clean).0)
    (several_failed _ _ _ _ c.from_residual-in_err-load_all.ensures.1 c.load_all.ensures.read.frame
    c.in_err-load_all.ensures.read.cause))

pub returns-then-not-branch : goal.returns-then-not-branch
returns-then-not-branch g c =
    let s0 = state g.S.Store c.args.conn.now in
    let s1 = state g.S.Store c.read_joined.new.conn in
    let s2 = state g.S.Store c.load_all.new.conn in
    let x = contents_of s0.now in
    let schema = c.args.schema in
    let dir = c.args.dir.now in
    let Every : Contents → Type 0 = λ y. AllByRecursion (IsSoundOne schema dir y) (finite.keys y.objects) in
    load_stopped _ _ _ _ _
    (reads_done _ _ _ _ (reads_then c.args.conn.now c.read_joined.new.conn c.load_all.new.conn _
    c.read_joined.ensures.frame (λ clean. (c.in_ok-joined.ensures.reads clean).0)
    c.in_ok-load_all.ensures.read))
    (λ clean sound.
    let was = clean_before s1 s2 (λ _. ⊥) c.load_all.ensures.read.frame.survives clean in
    let same : contents_of s1.now ≡ x = ap contents_of (c.in_ok-joined.ensures.reads was).0.0.now_is in
    false≢true (sym c.if-not-branch.true
    ∙ (c.in_ok-load_all.ensures.reported clean).1
    (subst Every (sym same) (all_of_rows x schema dir sound.objects.objects sound.cut))))

pub returns-in_err-are_joined : goal.returns-in_err-are_joined
returns-in_err-are_joined g c =
    load_failed _ _ _ _ _ c.from_residual-in_err-are_joined.result _ c.from_residual-in_err-are_joined.ensures.1
    (memory_failed _ _ c.from_residual-in_err-are_joined.result c.from_residual-in_err-are_joined.ensures.1
    (left_then c.args.conn.now c.read_joined.new.conn c.load_all.new.conn c.read_joined.ensures.frame
    c.load_all.ensures.read.frame))

pub returns : goal.returns
returns g c =
    let s0 = state g.S.Store c.args.conn.now in
    let s1 = state g.S.Store c.read_joined.new.conn in
    let s2 = state g.S.Store c.load_all.new.conn in
    let x = contents_of s0.now in
    let dir = c.args.dir.now in
    let schema = c.args.schema in
    record {
      read =
          reads_done _ _ _ _ (reads_then c.args.conn.now c.read_joined.new.conn c.load_all.new.conn _
          c.read_joined.ensures.frame (λ clean. (c.in_ok-joined.ensures.reads clean).0)
          c.in_ok-load_all.ensures.read);
      reported = λ clean.
          let was = clean_before s1 s2 (λ _. ⊥) c.load_all.ensures.read.frame.survives clean in
          let read = c.in_ok-joined.ensures.reads was in
          let j : Joined = c.in_ok-joined.joined in
          let all : AreJoined x j = read.1 in
          let now : contents_of s1.now ≡ x = ap contents_of read.0.0.now_is in
          let m : Objects = c.load_all.new.outline.objects in
          let Every : Contents → Type 0 = λ y. AllByRecursion (IsSoundOne schema dir y) (finite.keys y.objects) in
          let every = subst Every now ((c.in_ok-load_all.ensures.reported clean).0 c.if-not-branch.false) in
          let rows = rows_of_all x schema dir every in
          let cut = cut_of_all x schema dir every in
          let is : m ≡ (outline_of (world_in x)).objects =
          ap (λ (o : OutlineValue). o.objects) (c.in_ok-load_all.ensures.loaded clean c.if-not-branch.false)
          ∙ ap (λ (y : Contents). with_objects y (finite.keys y.objects) finite.empty) now ∙ put_all_objects x in
          let same : ((list_all (is_reference m) (map reference_of j.references.items)
          && list_all (is_output m) (map output_of j.outputs.items))
          && list_all (is_owned m) (map numbered_in j.pieces.items))
          ≡ ((list_all (is_reference m) (finite.entries x.refs) && list_all (is_output m) (finite.entries x.outs))
          && list_all (is_owned m) (finite.keys x.pieces)) =
          λ i. (list_all (is_reference m) (all.references i) && list_all (is_output m) (all.outputs i))
          && list_all (is_owned m) (all.pieces i) in
          let ok = c.in_ok-are_joined.ensures in (
            λ t. to_objects x schema dir rows cut m is (sym same ∙ sym ok ∙ t),
            λ a. ok ∙ same ∙ of_objects x schema dir rows cut m is a,
          );
      loaded = λ clean t.
          let was = clean_before s1 s2 (λ _. ⊥) c.load_all.ensures.read.frame.survives clean in
          let now : contents_of s1.now ≡ x = ap contents_of (c.in_ok-joined.ensures.reads was).0.0.now_is in
          let old : OutlineValue = c.args.outline.now in
          c.in_ok-load_all.ensures.loaded clean c.if-not-branch.false
          ∙ ap (λ (m : Objects). record old { objects = m })
          (ap (λ (y : Contents). with_objects y (finite.keys y.objects) finite.empty) now ∙ put_all_objects x);
    }
