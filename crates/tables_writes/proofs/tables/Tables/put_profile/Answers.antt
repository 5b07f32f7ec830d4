use Rattle.std.proofs.Common.{option_map, sym, subst, IsTrue}
use Rattle.std.specs.Prelude.{IfNone}
use Rattle.std.specs.FinMap as finite
use Rattle.model.specs.World.{Pair}
use Rattle.tables_writes.specs.Entries.{with_numbers}
use Rattle.tables_writes.specs.Writes.{CommitsChange, StaysSound, FailsToChange}
use Rattle.tables_writes.specs.RowsPut.{NumberedRows}
use Rattle.tables_writes.proofs.tables.Tables.put_profile.Goals as goal

pub switch_generation-requires-clause-present : goal.switch_generation-requires-clause-present
switch_generation-requires-clause-present g c =
    let owned : Pair = (c.args.owner.now, c.args.name.now) in
    subst (λ o. IfNone o (IsTrue (finite.contains_key c.args.self.now.outline.profiles owned))) c.in-None.is
    c.requires.present

pub switch_generation-requires-clause-sound : goal.switch_generation-requires-clause-sound
switch_generation-requires-clause-sound g c =
    let owned : Pair = (c.args.owner.now, c.args.name.now) in
    subst (λ o. StaysSound g.S.Store c.args.self.now
    (with_numbers owned (option_map (λ e. (e.0, e.1.now)) o) c.args.current)) c.in-None.is c.requires.sound

pub put_number-requires : goal.put_number-requires
put_number-requires g c =
    let owned : Pair = (c.args.owner.now, c.args.name.now) in
    record {
      sound = subst (λ o. StaysSound g.S.Store c.args.self.now
          (with_numbers owned (option_map (λ e. (e.0, e.1.now)) o) c.args.current)) c.in-Some.is c.requires.sound;
    }

pub returns-in-Some : goal.returns-in-Some
returns-in-Some g c = record {
  frame =
      let owned : Pair = (c.args.owner.now, c.args.name.now) in
      subst (λ o. CommitsChange g.S.Store c.args.self.now c.put_number.new.self c.put_number.result
      (with_numbers owned (option_map (λ e. (e.0, e.1.now)) o) c.args.current)) (sym c.in-Some.is)
      c.put_number.ensures.frame;
  cause =
      let owned : Pair = (c.args.owner.now, c.args.name.now) in
      subst (λ o. FailsToChange g.S.Store c.args.self.now c.put_number.new.self c.put_number.result
      (NumberedRows owned (option_map (λ e. (e.0, e.1.now)) o) c.args.current)) (sym c.in-Some.is)
      c.put_number.ensures.cause;
}

pub returns-in-None : goal.returns-in-None
returns-in-None g c = record {
  frame =
      let owned : Pair = (c.args.owner.now, c.args.name.now) in
      subst (λ o. CommitsChange g.S.Store c.args.self.now c.switch_generation.new.self c.switch_generation.result
      (with_numbers owned (option_map (λ e. (e.0, e.1.now)) o) c.args.current)) (sym c.in-None.is)
      c.switch_generation.ensures.frame;
  cause =
      let owned : Pair = (c.args.owner.now, c.args.name.now) in
      subst (λ o. FailsToChange g.S.Store c.args.self.now c.switch_generation.new.self c.switch_generation.result
      (NumberedRows owned (option_map (λ e. (e.0, e.1.now)) o) c.args.current)) (sym c.in-None.is)
      c.switch_generation.ensures.cause;
}
