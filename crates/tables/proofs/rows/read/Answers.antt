use Rattle.std.proofs.Common.{◌≡◌, sym, ap, subst, ◌∙◌, IsTrue, arith}
use Rattle.std.specs.Prelude.{◌↔◌}
use Rattle.sqlite.specs.Effect.{Database}
use Rattle.sqlite.specs.State.{HasCleanDisk}
use Rattle.sqlite.specs.Held.{state}
use Rattle.model.specs.World.{no_world}
use Rattle.tables_schema.specs.Forms.{piece, temp_root}
use Rattle.tables_sql.specs.Contents.{contents_of}
use Rattle.tables_sql.specs.Calls.{HasFurther}
use Rattle.tables_world.specs.Worlds.{rows_of, world_in}
use Rattle.tables_outline.specs.Outline.{OutlineValue, outline_of}
use Rattle.tables_load_objects.specs.Loaded.{AreSoundInPieces}
use Rattle.tables_load_roots.specs.Loaded.{AreAllSound, AreObjects, with_roots}
use Rattle.tables.proofs.Joined.{named_dir, without_objects, without_roots, are_objects, sound_from, whole_outline}
use Rattle.tables_rows.proofs.Several.{finds_alone, several_failed, reads_then, reads_done}
use Rattle.tables.proofs.rows.read.Goals as goal

-- ---- what each load requires

pub load_objects-requires : goal.load_objects-requires
load_objects-requires g c = record {
  frame = record { idle = c.read.ensures.frame.idle; ready = c.read.ensures.frame.ready };
  pieces = record {
    exists = λ clean has is_open.
        let same = (c.in_ok-dir.ensures.reads clean).0.0 in
        subst (λ (x : Database). HasFurther x piece) (sym same.now_is)
        ((c.requires.tables (omega (arith, c.read.ensures.frame.survives.clean)) same.was_open).pieces has);
    no_table = λ clean none is_open.
        let same = (c.in_ok-dir.ensures.reads clean).0.0 in
        ap (λ (x : Database). (contents_of x).pieces) same.now_is
        ∙ (c.requires.tables (omega (arith, c.read.ensures.frame.survives.clean)) same.was_open).no_pieces none;
  };
}

pub load_roots-requires : goal.load_roots-requires
load_roots-requires g c =
    let frame = c.load_objects.ensures.read.frame in
    let early : HasCleanDisk (state g.S.Store c.load_objects.new.conn)
    → HasCleanDisk (state g.S.Store c.read.new.conn) = λ clean. omega (arith, frame.survives.clean, clean) in
    let first : HasCleanDisk (state g.S.Store c.load_objects.new.conn)
    → HasCleanDisk (state g.S.Store c.args.conn.now) =
    λ clean. omega (arith, c.read.ensures.frame.survives.clean, frame.survives.clean, clean) in
    let outline : HasCleanDisk (state g.S.Store c.load_objects.new.conn)
    → c.load_objects.new.outline ≡ record (outline_of no_world) {
      objects =
          (outline_of (world_in (contents_of (state g.S.Store c.read.new.conn).now))).objects;
    } =
    λ clean. c.in_ok-load_objects.ensures.loaded clean c.if-not-branch.false
    ∙ ap (λ (o : OutlineValue). record o {
      objects =
          (outline_of (world_in (contents_of (state g.S.Store c.read.new.conn).now))).objects;
    })
    c.new-outline.ensures in
    record {
      frame = record { idle = frame.idle; ready = frame.ready };
      exists = λ clean has is_open.
          let same = (c.in_ok-dir.ensures.reads (early clean)).0.0 in
          let still = (c.in_ok-load_objects.ensures.read.unchanged clean).0 in
          subst (λ (x : Database). HasFurther x temp_root) (sym (still.now_is ∙ same.now_is))
          ((c.requires.tables (first clean) same.was_open).temporary has);
      no_table = λ clean none is_open.
          let same = (c.in_ok-dir.ensures.reads (early clean)).0.0 in
          let still = (c.in_ok-load_objects.ensures.read.unchanged clean).0 in
          ap (λ (x : Database). (contents_of x).temp_roots) (still.now_is ∙ same.now_is)
          ∙ (c.requires.tables (first clean) same.was_open).no_temporary none;
      permanent = λ clean. ap (λ (o : OutlineValue). o.permanent) (outline clean);
      user_roots = λ clean. ap (λ (o : OutlineValue). o.user_roots) (outline clean);
      profiles = λ clean. ap (λ (o : OutlineValue). o.profiles) (outline clean);
      runtime = λ clean. ap (λ (o : OutlineValue). o.runtime) (outline clean);
      temporary = λ clean. ap (λ (o : OutlineValue). o.temporary) (outline clean);
    }

pub returns-then-not-branch-clause-reported : goal.returns-then-not-branch-clause-reported
returns-then-not-branch-clause-reported g c clean =
    let a = state g.S.Store c.args.conn.now in
    let b = state g.S.Store c.read.new.conn in
    let d = state g.S.Store c.load_objects.new.conn in
    let early : HasCleanDisk b = omega (arith, c.load_objects.ensures.read.frame.survives.clean) in
    let same : b.now ≡ a.now = (c.in_ok-dir.ensures.reads early).0.0.now_is in
    let named =
    named_dir c.args.schema (contents_of a.now) c.in_ok-dir.field-0 c.in-Some.dir c.in-Some.is
    (c.in_ok-dir.ensures.reads early).1 in
    without_objects c.args.schema (contents_of a.now) c.in-Some.dir named.1 c.in_ok-load_objects.field-0
    (subst (λ (x : Database). IsTrue c.in_ok-load_objects.field-0
    ↔ AreSoundInPieces c.args.schema c.in-Some.dir (rows_of (contents_of x))) same
    (c.in_ok-load_objects.ensures.reported clean)) c.if-not-branch.true

pub returns-then-not-branch-2-clause-reported : goal.returns-then-not-branch-2-clause-reported
returns-then-not-branch-2-clause-reported g c clean =
    let a = state g.S.Store c.args.conn.now in
    let b = state g.S.Store c.read.new.conn in
    let d = state g.S.Store c.load_objects.new.conn in
    let later : HasCleanDisk d = omega (arith, c.load_roots.ensures.read.frame.survives.clean) in
    let early : HasCleanDisk b = omega (arith, c.load_objects.ensures.read.frame.survives.clean) in
    let same : b.now ≡ a.now = (c.in_ok-dir.ensures.reads early).0.0.now_is in
    let still : d.now ≡ a.now = (c.in_ok-load_objects.ensures.read.unchanged later).0.now_is ∙ same in
    let named =
    named_dir c.args.schema (contents_of a.now) c.in_ok-dir.field-0 c.in-Some.dir c.in-Some.is
    (c.in_ok-dir.ensures.reads early).1 in
    let objects : AreSoundInPieces c.args.schema c.in-Some.dir (rows_of (contents_of a.now)) =
    (subst (λ (x : Database). IsTrue c.in_ok-load_objects.field-0
    ↔ AreSoundInPieces c.args.schema c.in-Some.dir (rows_of (contents_of x))) same
    (c.in_ok-load_objects.ensures.reported later)).0 c.if-not-branch.false in
    let outline : c.load_objects.new.outline
    ≡ record c.new-outline.result { objects = (outline_of (world_in (contents_of b.now))).objects } =
    c.in_ok-load_objects.ensures.loaded later c.if-not-branch.false in
    let are : AreObjects c.load_objects.new.outline.objects (contents_of a.now) =
    are_objects c.args.schema c.in-Some.dir (contents_of a.now) c.load_objects.new.outline.objects
    (ap (λ (o : OutlineValue). o.objects) outline
    ∙ ap (λ (x : Database). (outline_of (world_in (contents_of x))).objects) same) objects in
    let roots : IsTrue c.in_ok-load_roots.field-0 ↔ AreAllSound (rows_of (contents_of a.now)) =
    subst (λ (x : Database). AreObjects c.load_objects.new.outline.objects (contents_of x)
    → (IsTrue c.in_ok-load_roots.field-0 ↔ AreAllSound (rows_of (contents_of x)))) still
    (c.in_ok-load_roots.ensures.reported clean) are in
    without_roots c.args.schema (contents_of a.now) c.in-Some.dir named.1 c.in_ok-load_roots.field-0 roots
    c.if-not-branch-2.true

pub returns-clause-reported : goal.returns-clause-reported
returns-clause-reported g c clean =
    let a = state g.S.Store c.args.conn.now in
    let b = state g.S.Store c.read.new.conn in
    let d = state g.S.Store c.load_objects.new.conn in
    let later : HasCleanDisk d = omega (arith, c.load_roots.ensures.read.frame.survives.clean) in
    let early : HasCleanDisk b = omega (arith, c.load_objects.ensures.read.frame.survives.clean) in
    let further =
    c.requires.tables (omega (arith, c.read.ensures.frame.survives.clean))
    (c.in_ok-dir.ensures.reads early).0.0.was_open in
    let same : b.now ≡ a.now = (c.in_ok-dir.ensures.reads early).0.0.now_is in
    let still : d.now ≡ a.now = (c.in_ok-load_objects.ensures.read.unchanged later).0.now_is ∙ same in
    let named =
    named_dir c.args.schema (contents_of a.now) c.in_ok-dir.field-0 c.in-Some.dir c.in-Some.is
    (c.in_ok-dir.ensures.reads early).1 in
    let objects : AreSoundInPieces c.args.schema c.in-Some.dir (rows_of (contents_of a.now)) =
    (subst (λ (x : Database). IsTrue c.in_ok-load_objects.field-0
    ↔ AreSoundInPieces c.args.schema c.in-Some.dir (rows_of (contents_of x))) same
    (c.in_ok-load_objects.ensures.reported later)).0 c.if-not-branch.false in
    let outline : c.load_objects.new.outline
    ≡ record c.new-outline.result { objects = (outline_of (world_in (contents_of b.now))).objects } =
    c.in_ok-load_objects.ensures.loaded later c.if-not-branch.false in
    let are : AreObjects c.load_objects.new.outline.objects (contents_of a.now) =
    are_objects c.args.schema c.in-Some.dir (contents_of a.now) c.load_objects.new.outline.objects
    (ap (λ (o : OutlineValue). o.objects) outline
    ∙ ap (λ (x : Database). (outline_of (world_in (contents_of x))).objects) same) objects in
    let roots : IsTrue c.in_ok-load_roots.field-0 ↔ AreAllSound (rows_of (contents_of a.now)) =
    subst (λ (x : Database). AreObjects c.load_objects.new.outline.objects (contents_of x)
    → (IsTrue c.in_ok-load_roots.field-0 ↔ AreAllSound (rows_of (contents_of x)))) still
    (c.in_ok-load_roots.ensures.reported clean) are in
    let filled = c.in_ok-load_roots.ensures.loaded clean c.if-not-branch-2.false in (
      sound_from c.args.schema c.in-Some.dir (contents_of a.now) named.0 named.1 further.no_pieces further.no_temporary
          objects (roots.0 c.if-not-branch-2.false),
      sym (filled ∙ ap (λ (x : Database). with_roots c.load_objects.new.outline (contents_of x)) still
          ∙ whole_outline (contents_of a.now) c.load_objects.new.outline
          (outline ∙ (λ i. record (c.new-outline.ensures i) {
            objects =
                (outline_of (world_in (contents_of (same i)))).objects;
          }))),
    )

-- ---- what it leaves

pub returns-in_err-dir-clause-read : goal.returns-in_err-dir-clause-read
returns-in_err-dir-clause-read g c =
    several_failed _ _ c.from_residual.result _ c.from_residual.ensures.1 c.read.ensures.frame
    c.in_err-dir.ensures.cause

pub returns-in_default-clause-read : goal.returns-in_default-clause-read
returns-in_default-clause-read g c = reads_done _ _ _ _ (finds_alone _ _ _ _ c.in_ok-dir.ensures)

pub returns-in_err-load_objects-clause-read : goal.returns-in_err-load_objects-clause-read
returns-in_err-load_objects-clause-read g c =
    reads_then _ _ _ c.from_residual-in_err-load_objects.result c.read.ensures.frame
    (λ clean. (c.in_ok-dir.ensures.reads clean).0)
    (several_failed _ _ c.from_residual-in_err-load_objects.result _ c.from_residual-in_err-load_objects.ensures.1
    c.load_objects.ensures.read.frame c.in_err-load_objects.ensures.read.cause)

pub returns-then-not-branch-clause-read : goal.returns-then-not-branch-clause-read
returns-then-not-branch-clause-read g c =
    reads_then _ _ _ _ c.read.ensures.frame (λ clean. (c.in_ok-dir.ensures.reads clean).0)
    (reads_done _ _ _ _ c.in_ok-load_objects.ensures.read)

pub returns-in_err-load_roots-clause-read : goal.returns-in_err-load_roots-clause-read
returns-in_err-load_roots-clause-read g c =
    let both =
    reads_then _ _ _ _ c.read.ensures.frame (λ clean. (c.in_ok-dir.ensures.reads clean).0)
    c.in_ok-load_objects.ensures.read in
    reads_then _ _ _ c.from_residual-in_err-load_roots.result both.frame both.unchanged
    (several_failed _ _ c.from_residual-in_err-load_roots.result _ c.from_residual-in_err-load_roots.ensures.1
    c.load_roots.ensures.read.frame c.in_err-load_roots.ensures.read.cause)

pub returns-then-not-branch-2-clause-read : goal.returns-then-not-branch-2-clause-read
returns-then-not-branch-2-clause-read g c =
    let both =
    reads_then _ _ _ _ c.read.ensures.frame (λ clean. (c.in_ok-dir.ensures.reads clean).0)
    c.in_ok-load_objects.ensures.read in
    reads_then _ _ _ _ both.frame both.unchanged (reads_done _ _ _ _ c.in_ok-load_roots.ensures.read)

pub returns-clause-read : goal.returns-clause-read
returns-clause-read g c =
    let both =
    reads_then _ _ _ _ c.read.ensures.frame (λ clean. (c.in_ok-dir.ensures.reads clean).0)
    c.in_ok-load_objects.ensures.read in
    reads_then _ _ _ _ both.frame both.unchanged (reads_done _ _ _ _ c.in_ok-load_roots.ensures.read)
