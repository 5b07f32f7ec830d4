use Rattle.std.proofs.Common.{◌≡◌, ℕ, List, ◌∷◌, ◌+◌, [], map, drop, string_bytes, sym, ap, ap₂, refl, subst, ◌∙◌}
use Rattle.std.proofs.lemmas.Bool.{false≢true}
use Rattle.std.proofs.Math.ListN.{drop_of_length-le}
use Rattle.sqlite.specs.Held.{state}
use Rattle.sqlite.proofs.Callers.{unchanged_then}
use Rattle.tables_sql.specs.Contents.{Contents, contents_of}
use Rattle.tables_rows.proofs.Several.{left_then, several_failed, reads_done, reads_then}
use Rattle.tables_load_objects.specs.Rows.{AreStored}
use Rattle.tables_load_objects.specs.Loaded.{Objects, IsSoundOne, filled, with_object}
use Rattle.tables_load_objects.proofs.Loads.{load_failed, load_stopped, load_done}
use Rattle.tables_load_objects.proofs.ReadRows.{as_it_was, clean_before, from_after}
use Rattle.tables_load_objects.proofs.Each.{left_at, no_change, decides_next, decides_one, decides_all, makes_next}
use Rattle.tables_load_objects.proofs.Each.{makes_all}
use Rattle.tables_load_objects.proofs.each_object.load_each.Goals as goal

pub bases-init : goal.bases-init
bases-init g c =
    let s = state g.S.Store c.args.conn.now in
    record {
      frame = as_it_was c.args.conn.now c.requires.frame c.requires.opened;
      unchanged = λ clean. no_change s (c.requires.opened clean);
      decides = λ clean. (λ h. h, λ h. h);
      makes = λ clean. refl;
      ahead = λ clean. subst (AreStored (contents_of s.now)) (sym c.new-ahead.ensures.items) tt;
    }

pub load_object-requires : goal.load_object-requires
load_object-requires g c =
    from_after c.args.source.now [] c.bases.ahead.items c.args.conn.now c.bases.conn c.bases.invariant.frame
    c.bases.invariant.unchanged c.requires c.bases.invariant.ahead

pub bases-preserved : goal.bases-preserved
bases-preserved g c =
    let first = state g.S.Store c.args.conn.now in
    let now = state g.S.Store c.bases.conn in
    let next = state g.S.Store c.load_object.new.conn in
    let schema = c.args.source.now.schema in
    let dir = c.args.source.now.dir.now in
    let bases = c.args.source.now.bases.now in
    let inv = c.bases.invariant in
    let item = c.base-item.result in
    let left = drop c.bases.base-index bases in
    let rest = drop (c.bases.base-index + 1) bases in
    let split : left ≡ item ∷ rest = left_at bases c.bases.base-index item c.bases-test.true c.base-item.is in
    let survives = c.load_object.ensures.object.read.frame.survives in
    let object = c.in_ok-load_object.ensures.object in
    record {
      frame =
          left_then c.args.conn.now c.bases.conn c.load_object.new.conn inv.frame
          c.load_object.ensures.object.read.frame;
      unchanged =
          λ clean. unchanged_then first now next (inv.unchanged (clean_before now next (λ _. ⊥) survives clean))
          (object.read.unchanged clean);
      decides = λ clean.
          let was = clean_before now next (λ _. ⊥) survives clean in
          let same : contents_of now.now ≡ contents_of first.now = ap contents_of (inv.unchanged was).0.now_is in
          let one : IsSoundOne schema dir (contents_of first.now) (string_bytes item) =
          subst (λ (x : Contents). IsSoundOne schema dir x (string_bytes item)) same
          (subst (IsSoundOne schema dir (contents_of now.now)) c.as_str-base.ensures.value
          ((object.reported clean).0 c.if-not-branch.false)) in
          decides_next schema dir (contents_of first.now) (map string_bytes bases) left rest item split one
          (inv.decides was);
      makes = λ clean.
          let was = clean_before now next (λ _. ⊥) survives clean in
          let same : contents_of now.now ≡ contents_of first.now = ap contents_of (inv.unchanged was).0.now_is in
          let found : Objects = filled c.bases.found.items in
          makes_next (contents_of first.now) (filled c.args.found.now.items) (map string_bytes bases) left rest item
          found (filled c.load_object.new.found.items) split
          (object.loaded clean c.if-not-branch.false
          ∙ ap₂ (λ (x : Contents) (p : List ℕ). with_object x p found) same c.as_str-base.ensures.value)
          (inv.makes was);
      ahead = λ clean.
          let was = clean_before now next (λ _. ⊥) survives clean in
          let same : contents_of now.now ≡ contents_of first.now = ap contents_of (inv.unchanged was).0.now_is in
          subst (λ (x : Contents). AreStored x c.load_object.new.ahead.items) same
          (c.in_ok-load_object.ensures.ahead clean);
    }

pub returns-in_err-load_object : goal.returns-in_err-load_object
returns-in_err-load_object g c =
    load_failed _ _ _ _ _ c.from_residual.result _ c.from_residual.ensures.1
    (reads_then c.args.conn.now c.bases.conn c.load_object.new.conn c.from_residual.result c.bases.invariant.frame
    c.bases.invariant.unchanged
    (several_failed _ _ _ _ c.from_residual.ensures.1 c.load_object.ensures.object.read.frame
    c.in_err-load_object.ensures.object.read.cause))

pub returns-then-not-branch : goal.returns-then-not-branch
returns-then-not-branch g c =
    let first = state g.S.Store c.args.conn.now in
    let now = state g.S.Store c.bases.conn in
    let next = state g.S.Store c.load_object.new.conn in
    let schema = c.args.source.now.schema in
    let dir = c.args.source.now.dir.now in
    let bases = c.args.source.now.bases.now in
    let inv = c.bases.invariant in
    let item = c.base-item.result in
    let split = left_at bases c.bases.base-index item c.bases-test.true c.base-item.is in
    load_stopped _ _ _ _ _
    (reads_done _ _ _ _ (reads_then c.args.conn.now c.bases.conn c.load_object.new.conn _ inv.frame inv.unchanged
    c.in_ok-load_object.ensures.object.read))
    (λ clean every.
    let was = clean_before now next (λ _. ⊥) c.load_object.ensures.object.read.frame.survives clean in
    let same : contents_of now.now ≡ contents_of first.now = ap contents_of (inv.unchanged was).0.now_is in
    let one =
    decides_one schema dir (contents_of first.now) (map string_bytes bases) (drop c.bases.base-index bases)
    (drop (c.bases.base-index + 1) bases) item split (inv.decides was) every in
    false≢true (sym c.if-not-branch.true ∙ (c.in_ok-load_object.ensures.object.reported clean).1
    (subst (IsSoundOne schema dir (contents_of now.now)) (sym c.as_str-base.ensures.value)
    (subst (λ (x : Contents). IsSoundOne schema dir x (string_bytes item)) (sym same) one))))

pub returns : goal.returns
returns g c =
    let x = contents_of (state g.S.Store c.args.conn.now).now in
    let bases = c.args.source.now.bases.now in
    let left = drop c.bases.base-index bases in
    let none = drop_of_length-le bases c.bases-test.false in
    load_done _ _ _ _ _
    (record { frame = c.bases.invariant.frame; unchanged = c.bases.invariant.unchanged; cause = λ _. tt })
    (λ clean. decides_all c.args.source.now.schema c.args.source.now.dir.now x (map string_bytes bases) left none
    (c.bases.invariant.decides clean))
    (λ clean. makes_all x (filled c.args.found.now.items) (map string_bytes bases) left (filled c.bases.found.items)
    none (c.bases.invariant.makes clean))
