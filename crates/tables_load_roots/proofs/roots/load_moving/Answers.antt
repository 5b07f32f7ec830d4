use Rattle.std.proofs.Common.{refl, ap, ◌∙◌}
use Rattle.tables_sql.proofs.Steps.{clean_before}
use Rattle.tables_outline.specs.Outline.{OutlineValue}
use Rattle.tables_load_roots.proofs.Loads.{failed_load, load_stops, load_goes_on}
use Rattle.tables_rows.proofs.Several.{several_failed}
use Rattle.tables_load_roots.proofs.roots.load_moving.Goals as goal

pub read-requires : goal.read-requires
read-requires g c = record { frame = c.requires.frame; fits = λ clean. (c.requires.fits clean).0 }

pub load_table-requires-clause-roots : goal.load_table-requires-clause-roots
load_table-requires-clause-roots g c =
    let left = c.read.ensures.read.frame in
    record {
      frame = record { idle = left.idle; ready = left.ready };
      fits =
          λ clean. ap (λ (o : OutlineValue). o.runtime) (c.in_ok-read.ensures.loaded clean c.if-not-branch.false)
          ∙ (c.requires.fits (clean_before _ _ _ left.survives clean)).1;
    }

pub returns-in_err-read : goal.returns-in_err-read
returns-in_err-read g c =
    failed_load _ _ c.from_residual.result _ _ _ _ _ c.from_residual.ensures.1
    (several_failed _ _ c.from_residual.result _ c.from_residual.ensures.1 c.read.ensures.read.frame
    c.in_err-read.ensures.read.cause)

pub returns-then-not-branch : goal.returns-then-not-branch
returns-then-not-branch g c = load_stops _ _ _ _ _ _ _ c.in_ok-read.ensures _ _ c.if-not-branch.true

pub returns : goal.returns
returns g c =
    load_goes_on _ _ _ _ _ _ _ c.in_ok-read.ensures _ c.load_table.result _ _ _ c.if-not-branch.false (λ _. refl)
    c.load_table.ensures
