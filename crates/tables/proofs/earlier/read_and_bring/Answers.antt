use Rattle.std.proofs.Common.{ℕ, List, sym, subst}
use Rattle.std.proofs.lemmas.Result.{err_from_is_err_and}
use Rattle.sqlite.specs.Held.{state}
use Rattle.tables_sql.specs.Contents.{contents_of}
use Rattle.tables_sql.proofs.Steps.{clean_before}
use Rattle.tables_world.specs.Worlds.{IsSoundBy}
use Rattle.tables_make.proofs.MigratingFailures.{whole_before}
use Rattle.tables.specs.Opening.{IsFoundBy}
use Rattle.tables.proofs.Brought.{both_migrate, both_leave}
use Rattle.tables.proofs.Causes.{migration_cause}
use Rattle.tables.proofs.earlier.read_and_bring.Goals as goal

pub bring-requires-clause-tables : goal.bring-requires-clause-tables
bring-requires-clause-tables g c =
    let a = state g.S.Store c.args.conn.now in
    let b = state g.S.Store c.read_as.new.conn in
    record {
      idle = c.read_as.ensures.frame.idle;
      ready = λ clean. c.read_as.ensures.frame.ready clean (c.in_ok-loaded.ensures.unchanged clean).0.is_open;
      found =
          λ clean. subst (IsFoundBy c.args.schema) (sym (c.in_ok-loaded.ensures.unchanged clean).0.now_is)
          (c.requires.found (clean_before a b _ c.read_as.ensures.frame.survives clean));
    }

pub returns-clause-brought : goal.returns-clause-brought
returns-clause-brought g c clean =
    let a = state g.S.Store c.args.conn.now in
    let b = state g.S.Store c.read_as.new.conn in
    let d = state g.S.Store c.bring.new.conn in
    both_migrate c.args.schema c.args.dir.now a b d c.in_ok-loaded.ensures.unchanged
    (λ early. subst (λ (x : List ℕ). IsSoundBy c.args.schema x (contents_of a.now)) c.in_ok-loaded.ensures.dir
    (c.in_ok-loaded.ensures.reported early).0)
    (clean_before b d _ c.bring.ensures.migrates.survives clean) (c.in_ok-bring.ensures.migrates.done clean)

pub returns-clause-survives : goal.returns-clause-survives
returns-clause-survives g c =
    let a = state g.S.Store c.args.conn.now in
    let b = state g.S.Store c.read_as.new.conn in
    let d = state g.S.Store c.bring.new.conn in
    both_leave c.args.schema c.args.dir.now a b d c.in_ok-loaded.ensures.unchanged
    (λ early. subst (λ (x : List ℕ). IsSoundBy c.args.schema x (contents_of a.now)) c.in_ok-loaded.ensures.dir
    (c.in_ok-loaded.ensures.reported early).0)
    c.requires.found c.read_as.ensures.frame.survives c.bring.ensures.migrates.survives

pub returns-in_err-bring-clause-survives : goal.returns-in_err-bring-clause-survives
returns-in_err-bring-clause-survives g c =
    let a = state g.S.Store c.args.conn.now in
    let b = state g.S.Store c.read_as.new.conn in
    let d = state g.S.Store c.bring.new.conn in
    both_leave c.args.schema c.args.dir.now a b d c.in_ok-loaded.ensures.unchanged
    (λ early. subst (λ (x : List ℕ). IsSoundBy c.args.schema x (contents_of a.now)) c.in_ok-loaded.ensures.dir
    (c.in_ok-loaded.ensures.reported early).0)
    c.requires.found c.read_as.ensures.frame.survives c.bring.ensures.migrates.survives

pub returns-in_err-bring-clause-cause : goal.returns-in_err-bring-clause-cause
returns-in_err-bring-clause-cause g c clean =
    let a = state g.S.Store c.args.conn.now in
    let b = state g.S.Store c.read_as.new.conn in
    let d = state g.S.Store c.bring.new.conn in
    let read = clean_before b d _ c.bring.ensures.migrates.survives clean in
    let early = clean_before a b _ c.read_as.ensures.frame.survives read in
    let p = err_from_is_err_and c.from_residual-in_err-bring.result c.from_residual-in_err-bring.ensures.1 in
    rw (p.1, p.2) (migration_cause c.args.dir.now a d c.in_err-bring.field-0.0 c.args.schema (c.requires.found early)
    c.in_err-bring.ensures.needed
    (whole_before c.args.schema a b d (c.in_ok-loaded.ensures.unchanged read) c.read_as.ensures.frame.survives
    c.in_err-bring.field-0.0 (c.in_err-bring.ensures.migrates.cause clean)))
