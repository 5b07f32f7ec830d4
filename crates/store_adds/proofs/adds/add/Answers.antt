use Rattle.std.proofs.Common.{refl, sym, ap, ◌∙◌}
use Rattle.std.proofs.lemmas.Result.{err_from_is_err_and}
use Rattle.std.specs.FinMap as finite
use Rattle.tables_outline.specs.Outline.{OutlineValue}
use Rattle.store_adds.proofs.AddedObjects.{added_present, sound_put, added_new, added_not}
use Rattle.store_adds.proofs.adds.add.Goals as goal

pub returns-then-has : goal.returns-then-has
returns-then-has g c =
    added_present g.S.Store c.args.added.path c.args.added.object c.args.tables.now c.args.added.nar
    (ap (λ (x : OutlineValue). finite.contains_key x.objects c.args.added.path) (sym c.outline.ensures)
    ∙ sym c.has.ensures ∙ c.if-has.true)

pub insert_object-requires-clause-sound : goal.insert_object-requires-clause-sound
insert_object-requires-clause-sound g c =
    sound_put g.S.Store c.args.added.path c.args.added.object c.args.tables.now c.args.added.nar c.args.added.nar refl
    (ap (λ (x : OutlineValue). finite.contains_key x.objects c.args.added.path) (sym c.outline.ensures)
    ∙ sym c.has.ensures ∙ c.if-has.false) c.requires

pub returns : goal.returns
returns g c =
    added_new g.S.Store c.args.added.path c.args.added.object c.args.tables.now c.args.added.nar c.args.added.nar refl
    (ap (λ (x : OutlineValue). finite.contains_key x.objects c.args.added.path) (sym c.outline.ensures)
    ∙ sym c.has.ensures ∙ c.if-has.false)
    c.insert_object.new.self c.in_ok-insert_object.ensures.frame

pub returns-in_err-insert_object : goal.returns-in_err-insert_object
returns-in_err-insert_object g c =
    let p = err_from_is_err_and c.from_residual.result c.from_residual.ensures.1 in
    rw (p.1, p.2) (added_not g.S.Store c.args.added.path c.args.added.object c.args.tables.now c.args.added.nar
    c.args.added.nar refl
    (ap (λ (x : OutlineValue). finite.contains_key x.objects c.args.added.path) (sym c.outline.ensures)
    ∙ sym c.has.ensures ∙ c.if-has.false)
    c.insert_object.new.self c.in_err-insert_object.field-0.0 c.in_err-insert_object.ensures.frame c.args.added.hash
    c.in_err-insert_object.ensures.cause)
