use Rattle.std.proofs.Common.{refl, ap, ◌∙◌}
use Rattle.tables_sql.proofs.Steps.{clean_before}
use Rattle.tables_outline.specs.Outline.{OutlineValue}
use Rattle.tables_load_roots.proofs.Loads.{failed_load, load_stops, load_goes_on}
use Rattle.tables_rows.proofs.Several.{several_failed}
use Rattle.tables_load_roots.proofs.roots.load_explicit.Goals as goal

pub load_fixed-requires : goal.load_fixed-requires
load_fixed-requires g c =
    record {
      frame = c.requires.frame;
      fits = λ clean. let none = c.requires.fits clean in
          (none.permanent, none.user_roots);
    }

pub load_moving-requires : goal.load_moving-requires
load_moving-requires g c =
    let left = c.load_fixed.ensures.read.frame in
    record {
      frame = record { idle = left.idle; ready = left.ready };
      fits = λ clean.
          let none = c.requires.fits (clean_before _ _ _ left.survives clean) in
          let filled = c.in_ok-load_fixed.ensures.loaded clean c.if-not-branch.false in (
            ap (λ (o : OutlineValue). o.profiles) filled ∙ none.profiles,
            ap (λ (o : OutlineValue). o.runtime) filled ∙ none.runtime,
          );
    }

pub returns-in_err-load_fixed : goal.returns-in_err-load_fixed
returns-in_err-load_fixed g c =
    failed_load _ _ c.from_residual.result _ _ _ _ _ c.from_residual.ensures.1
    (several_failed _ _ c.from_residual.result _ c.from_residual.ensures.1 c.load_fixed.ensures.read.frame
    c.in_err-load_fixed.ensures.read.cause)

pub returns-then-not-branch : goal.returns-then-not-branch
returns-then-not-branch g c = load_stops _ _ _ _ _ _ _ c.in_ok-load_fixed.ensures _ _ c.if-not-branch.true

pub returns : goal.returns
returns g c =
    load_goes_on _ _ _ _ _ _ _ c.in_ok-load_fixed.ensures _ c.load_moving.result _ _ _ c.if-not-branch.false (λ _. refl)
    c.load_moving.ensures
