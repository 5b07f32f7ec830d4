use Rattle.std.proofs.Common.{refl, sym, ap, ◌∙◌}
use Rattle.std.proofs.lemmas.Result.{err_from_is_err_and}
use Rattle.model.specs.World.{Pair}
use Rattle.model.specs.Profiles.{has_generation}
use Rattle.tables_outline.specs.Maps.{pair_bytes}
use Rattle.tables_outline.specs.Outline.{profile_of}
use Rattle.tables_writes.proofs.AddedGenerations.{put_present, generation_put, generation_present, generation_undone}
use Rattle.tables_writes.proofs.AddedGenerations.{made_agrees, generation_made, unmade_agrees, generation_unmade}
use Rattle.tables_writes.proofs.NumbersLeft.{none_present}
use Rattle.tables_writes.proofs.tables.Tables.put_number.Goals as goal

-- ---- the profile has the number

pub replace_generation-requires : goal.replace_generation-requires
replace_generation-requires g c = sym c.has_generation.ensures ∙ c.if-has_generation.true

pub switch_generation-requires : goal.switch_generation-requires
switch_generation-requires g c =
    put_present c.self.inside.outline c.replace_generation.new.self (c.args.owner.now, c.args.name.now)
    (pair_bytes c.in_ok-key.key) (pair_bytes c.in_ok-key.key) c.args.number c.args.target.now c.in_ok-value.value
    c.in_ok-key.ensures c.in_ok-key.ensures c.in_ok-value.ensures.cases c.replace_generation.ensures

pub returns-in_err-commit : goal.returns-in_err-commit
returns-in_err-commit g c =
    let p = err_from_is_err_and c.from_residual-in_err-commit.result c.from_residual-in_err-commit.ensures.1 in
    rw (p.1, p.2) (generation_unmade g.S.Store _ c.args.self.now c.self.view_is c.self.invariant
    (c.args.owner.now, c.args.name.now) c.args.number c.args.target.now c.args.current c.requires.sound
    c.as_str.result.now c.as_str.ensures.value c.commit.new.conn c.self.inside.outline _
    c.in_err-commit.ensures.frame refl c.in_err-commit.ensures.cause)

pub invariant_of-self-then-has_generation : goal.invariant_of-self-then-has_generation
invariant_of-self-then-has_generation g c =
    made_agrees g.S.Store _ c.args.self.now c.self.view_is c.self.invariant (c.args.owner.now, c.args.name.now)
    c.args.number c.args.target.now c.args.current c.requires.sound c.as_str.result.now c.as_str.ensures.value
    c.commit.new.conn c.switch_generation.new.self _ c.in_ok-commit.ensures.frame
    (generation_put c.self.inside.outline c.replace_generation.new.self (c.args.owner.now, c.args.name.now)
    (pair_bytes c.in_ok-key.key) (pair_bytes c.in_ok-key.key) c.args.number c.args.target.now c.in_ok-value.value
    c.in_ok-key.ensures c.in_ok-key.ensures c.in_ok-value.ensures.cases c.replace_generation.ensures
    c.switch_generation.new.self c.args.current c.switch_generation.ensures)

pub returns-then-has_generation : goal.returns-then-has_generation
returns-then-has_generation g c =
    generation_made g.S.Store _ c.args.self.now c.self.view_is c.self.invariant (c.args.owner.now, c.args.name.now)
    c.args.number c.args.target.now c.args.current c.requires.sound c.as_str.result.now c.as_str.ensures.value
    c.commit.new.conn c.switch_generation.new.self _ c.in_ok-commit.ensures.frame
    (generation_put c.self.inside.outline c.replace_generation.new.self (c.args.owner.now, c.args.name.now)
    (pair_bytes c.in_ok-key.key) (pair_bytes c.in_ok-key.key) c.args.number c.args.target.now c.in_ok-value.value
    c.in_ok-key.ensures c.in_ok-key.ensures c.in_ok-value.ensures.cases c.replace_generation.ensures
    c.switch_generation.new.self c.args.current c.switch_generation.ensures) _

-- ---- it doesn't have it

pub switch_generation-requires-2 : goal.switch_generation-requires-2
switch_generation-requires-2 g c =
    put_present c.self.inside.outline c.put_generation.new.self (c.args.owner.now, c.args.name.now)
    (pair_bytes c.in_ok-key.key) (pair_bytes c.in_ok-again.again) c.args.number c.args.target.now c.in_ok-value.value
    c.in_ok-key.ensures c.in_ok-again.ensures c.in_ok-value.ensures.cases c.in_ok-had.ensures.done

pub undo_generation-requires : goal.undo_generation-requires
undo_generation-requires g c =
    generation_present c.self.inside.outline c.put_generation.new.self (c.args.owner.now, c.args.name.now)
    (pair_bytes c.in_ok-key.key) (pair_bytes c.in_ok-again.again) c.args.number c.args.target.now c.in_ok-value.value
    c.in_ok-key.ensures c.in_ok-again.ensures c.in_ok-value.ensures.cases c.in_ok-had.ensures.done
    c.switch_generation-2.new.self c.args.current c.switch_generation-2.ensures

pub invariant_of-self-in-Ok : goal.invariant_of-self-in-Ok
invariant_of-self-in-Ok g c =
    made_agrees g.S.Store _ c.args.self.now c.self.view_is c.self.invariant (c.args.owner.now, c.args.name.now)
    c.args.number c.args.target.now c.args.current c.requires.sound c.as_str.result.now c.as_str.ensures.value
    c.commit-2.new.conn c.switch_generation-2.new.self _ c.in-Ok.ensures.frame
    (generation_put c.self.inside.outline c.put_generation.new.self (c.args.owner.now, c.args.name.now)
    (pair_bytes c.in_ok-key.key) (pair_bytes c.in_ok-again.again) c.args.number c.args.target.now
    c.in_ok-value.value c.in_ok-key.ensures c.in_ok-again.ensures c.in_ok-value.ensures.cases
    c.in_ok-had.ensures.done c.switch_generation-2.new.self c.args.current c.switch_generation-2.ensures)

pub returns-in-Ok : goal.returns-in-Ok
returns-in-Ok g c =
    generation_made g.S.Store _ c.args.self.now c.self.view_is c.self.invariant (c.args.owner.now, c.args.name.now)
    c.args.number c.args.target.now c.args.current c.requires.sound c.as_str.result.now c.as_str.ensures.value
    c.commit-2.new.conn c.switch_generation-2.new.self _ c.in-Ok.ensures.frame
    (generation_put c.self.inside.outline c.put_generation.new.self (c.args.owner.now, c.args.name.now)
    (pair_bytes c.in_ok-key.key) (pair_bytes c.in_ok-again.again) c.args.number c.args.target.now
    c.in_ok-value.value c.in_ok-key.ensures c.in_ok-again.ensures c.in_ok-value.ensures.cases
    c.in_ok-had.ensures.done c.switch_generation-2.new.self c.args.current c.switch_generation-2.ensures) _

pub invariant_of-self-in-Err : goal.invariant_of-self-in-Err
invariant_of-self-in-Err g c =
    let owned : Pair = (c.args.owner.now, c.args.name.now) in
    let absent =
    none_present (profile_of c.self.inside.outline owned) c.args.number
    (ap (λ (k : Pair). has_generation (profile_of c.self.inside.outline k) c.args.number) (sym c.in_ok-key.ensures)
    ∙ sym c.has_generation.ensures ∙ c.if-has_generation.false) in
    unmade_agrees g.S.Store _ c.args.self.now c.self.view_is c.self.invariant (c.args.owner.now, c.args.name.now)
    c.args.number c.args.target.now c.args.current c.requires.sound c.as_str.result.now c.as_str.ensures.value
    c.commit-2.new.conn c.undo_generation.new.self _ c.in-Err.ensures.frame
    (generation_undone c.self.inside.outline c.put_generation.new.self (c.args.owner.now, c.args.name.now)
    (pair_bytes c.in_ok-key.key) (pair_bytes c.in_ok-again.again) c.args.number c.args.target.now
    c.in_ok-value.value c.in_ok-key.ensures c.in_ok-again.ensures c.in_ok-value.ensures.cases
    c.in_ok-had.ensures.done c.switch_generation-2.new.self c.args.current c.switch_generation-2.ensures absent
    c.undo_generation.new.self _ c.in_ok-had.ensures.had c.undo_generation.ensures)

pub returns : goal.returns
returns g c =
    let owned : Pair = (c.args.owner.now, c.args.name.now) in
    let absent =
    none_present (profile_of c.self.inside.outline owned) c.args.number
    (ap (λ (k : Pair). has_generation (profile_of c.self.inside.outline k) c.args.number) (sym c.in_ok-key.ensures)
    ∙ sym c.has_generation.ensures ∙ c.if-has_generation.false) in
    generation_unmade g.S.Store _ c.args.self.now c.self.view_is c.self.invariant (c.args.owner.now, c.args.name.now)
    c.args.number c.args.target.now c.args.current c.requires.sound c.as_str.result.now c.as_str.ensures.value
    c.commit-2.new.conn c.undo_generation.new.self _ c.in-Err.ensures.frame
    (generation_undone c.self.inside.outline c.put_generation.new.self (c.args.owner.now, c.args.name.now)
    (pair_bytes c.in_ok-key.key) (pair_bytes c.in_ok-again.again) c.args.number c.args.target.now
    c.in_ok-value.value c.in_ok-key.ensures c.in_ok-again.ensures c.in_ok-value.ensures.cases
    c.in_ok-had.ensures.done c.switch_generation-2.new.self c.args.current c.switch_generation-2.ensures absent
    c.undo_generation.new.self _ c.in_ok-had.ensures.had c.undo_generation.ensures)
    c.in-Err.ensures.cause
