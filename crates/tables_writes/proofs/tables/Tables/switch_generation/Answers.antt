use Rattle.std.proofs.Common.{refl, ap, ◌∙◌}
use Rattle.std.proofs.lemmas.Result.{err_from_is_err_and}
use Rattle.std.specs.Prelude.{pos}
use Rattle.std.specs.FinMap as finite
use Rattle.tables_sql.specs.Contents.{Contents}
use Rattle.model.specs.World.{Pair}
use Rattle.model.specs.Profiles.{switched}
use Rattle.tables_outline.specs.Outline.{with_profile, profile_of}
use Rattle.tables_writes.specs.TablesValue.{TablesValue}
use Rattle.tables_writes.proofs.ProfileWrites.{profile_write, switch_follows}
use Rattle.tables_writes.proofs.AfterWrites.{write_agrees, write_commits, write_fails, failure_seen}
use Rattle.tables_sql.proofs.TestFailures.{passed_on}
use Rattle.tables_writes.specs.RowsPut.{ProfileRow}
use Rattle.tables_writes.proofs.tables.Tables.switch_generation.Goals as goal

pub switch_generation-requires : goal.switch_generation-requires
switch_generation-requires g c =
    ap (λ (k : Pair). finite.contains_key c.self.inside.outline.profiles k) c.in_ok-key.ensures
    ∙ ap (λ (n : TablesValue _). finite.contains_key n.outline.profiles (c.args.owner.now, c.args.name.now))
    c.self.view_is ∙ c.requires.present

pub returns-in_err-commit : goal.returns-in_err-commit
returns-in_err-commit g c = record {
  frame =
      let owned : Pair = (c.args.owner.now, c.args.name.now) in
      let p = err_from_is_err_and c.from_residual-in_err-commit.result c.from_residual-in_err-commit.ensures.1 in
      rw (p.1, p.2) (write_fails g.S.Store
      (profile_write owned (λ p. switched p c.args.number)
      (λ (x : Contents). record x { profiles = finite.insert x.profiles owned (pos c.args.number) }) g.S.Store _
      c.args.self.now c.self.view_is c.self.invariant c.requires.sound
      (λ clean is_open. switch_follows _ _ (c.self.invariant.rows clean is_open).sound owned c.args.number))
      c.commit.new.conn c.self.inside.outline _ (c.in_err-commit.ensures.frame)
      (refl) _);
  cause =
      λ clean. passed_on c.from_residual-in_err-commit.result _ _ c.from_residual-in_err-commit.ensures.1
      (failure_seen g.S.Store c.commit.new.conn (ProfileRow (c.args.owner.now, c.args.name.now) c.args.number) _
      c.self.view_is c.in_err-commit.ensures.cause clean);
}

pub invariant_of-self-2 : goal.invariant_of-self-2
invariant_of-self-2 g c =
    let owned : Pair = (c.args.owner.now, c.args.name.now) in
    write_agrees g.S.Store (profile_write owned (λ p. switched p c.args.number)
    (λ (x : Contents). record x { profiles = finite.insert x.profiles owned (pos c.args.number) }) g.S.Store _
    c.args.self.now c.self.view_is c.self.invariant c.requires.sound
    (λ clean is_open. switch_follows _ _ (c.self.invariant.rows clean is_open).sound owned c.args.number))
    c.commit.new.conn c.switch_generation.new.self _ (c.in_ok-commit.ensures.frame)
    (c.switch_generation.ensures ∙ ap
    (λ (k : Pair). with_profile c.self.inside.outline k
    (switched (profile_of c.self.inside.outline k) c.args.number)) c.in_ok-key.ensures)

pub returns : goal.returns
returns g c = record {
  frame =
      let owned : Pair = (c.args.owner.now, c.args.name.now) in
      write_commits g.S.Store (profile_write owned (λ p. switched p c.args.number)
      (λ (x : Contents). record x { profiles = finite.insert x.profiles owned (pos c.args.number) }) g.S.Store _
      c.args.self.now c.self.view_is c.self.invariant c.requires.sound
      (λ clean is_open. switch_follows _ _ (c.self.invariant.rows clean is_open).sound owned c.args.number))
      c.commit.new.conn c.switch_generation.new.self _ (c.in_ok-commit.ensures.frame)
      (c.switch_generation.ensures ∙ ap
      (λ (k : Pair). with_profile c.self.inside.outline k
      (switched (profile_of c.self.inside.outline k) c.args.number)) c.in_ok-key.ensures) _;
  cause = λ clean. tt;
}
