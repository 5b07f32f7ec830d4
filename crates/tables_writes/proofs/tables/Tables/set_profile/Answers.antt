use Rattle.std.proofs.Common.{sym, ap₂, ◌∙◌}
use Rattle.std.specs.FinMap as finite
use Rattle.sqlite.specs.Held.{state}
use Rattle.model.specs.World.{Pair}
use Rattle.model.specs.Profiles.{has_generation, put_at, switched}
use Rattle.tables_outline.specs.Outline.{profile_of}
use Rattle.tables_writes.specs.TablesValue.{TablesValue}
use Rattle.tables_writes.specs.RowsPut.{ProfileRow, PathRow, GenerationRows}
use Rattle.tables_writes.proofs.NumbersLeft.{set_is_switch, set_is_new, present_of}
use Rattle.tables_rows.proofs.Reasons.{as_reason, first_among, more_reason}
use Rattle.tables_writes.proofs.SetProfiles.{set_sound, set_commits}
use Rattle.tables_writes.proofs.tables.Tables.set_profile.Goals as goal

pub switch_generation-requires-clause-present : goal.switch_generation-requires-clause-present
switch_generation-requires-clause-present g c =
    let owned : Pair = (c.args.owner.now, c.args.name.now) in
    present_of (finite.get c.args.self.now.outline.profiles owned) c.args.number
    (sym (ap₂ (λ (n : TablesValue _) (k : Pair). has_generation (profile_of n.outline k) c.args.number)
    c.self.view_is c.in_ok-key.ensures) ∙ sym c.has_generation.ensures ∙ c.if-has_generation.true)

pub switch_generation-requires-clause-sound : goal.switch_generation-requires-clause-sound
switch_generation-requires-clause-sound g c =
    let owned : Pair = (c.args.owner.now, c.args.name.now) in
    set_sound g.S.Store c.args.self.now owned c.args.target.now (λ p. switched p c.args.number)
    (set_is_switch (profile_of c.args.self.now.outline owned) c.args.target.now c.args.number c.requires.number
    (sym (ap₂ (λ (n : TablesValue _) (k : Pair). has_generation (profile_of n.outline k) c.args.number)
    c.self.view_is c.in_ok-key.ensures) ∙ sym c.has_generation.ensures ∙ c.if-has_generation.true))
    c.requires.sound

pub put_number-requires : goal.put_number-requires
put_number-requires g c =
    let owned : Pair = (c.args.owner.now, c.args.name.now) in
    record {
      sound = set_sound g.S.Store c.args.self.now owned c.args.target.now
          (λ p. put_at p c.args.number c.args.target.now)
          (set_is_new (profile_of c.args.self.now.outline owned) c.args.target.now c.args.number c.requires.number)
          c.requires.sound;
    }

pub returns-then-has_generation : goal.returns-then-has_generation
returns-then-has_generation g c = record {
  frame =
      let owned : Pair = (c.args.owner.now, c.args.name.now) in
      set_commits g.S.Store c.args.self.now owned c.args.target.now (λ p. switched p c.args.number)
      (set_is_switch (profile_of c.args.self.now.outline owned) c.args.target.now c.args.number c.requires.number
      (sym (ap₂ (λ (n : TablesValue _) (k : Pair). has_generation (profile_of n.outline k) c.args.number)
      c.self.view_is c.in_ok-key.ensures) ∙ sym c.has_generation.ensures ∙ c.if-has_generation.true))
      c.switch_generation.result c.switch_generation.new.self c.switch_generation.ensures.frame;
  cause = λ clean.
      let owned : Pair = (c.args.owner.now, c.args.name.now) in
      as_reason _ _ (more_reason (ProfileRow owned c.args.number)
      (GenerationRows owned c.args.number c.args.target.now c.args.number)
      (first_among (ProfileRow owned c.args.number) (PathRow owned c.args.number c.args.target.now))
      (state g.S.Store c.args.self.now.connection) (state g.S.Store c.switch_generation.new.self.connection))
      c.switch_generation.result (c.switch_generation.ensures.cause clean);
}

pub returns : goal.returns
returns g c = record {
  frame =
      let owned : Pair = (c.args.owner.now, c.args.name.now) in
      set_commits g.S.Store c.args.self.now owned c.args.target.now (λ p. put_at p c.args.number c.args.target.now)
      (set_is_new (profile_of c.args.self.now.outline owned) c.args.target.now c.args.number c.requires.number)
      c.put_number.result c.put_number.new.self c.put_number.ensures.frame;
  cause = c.put_number.ensures.cause;
}
