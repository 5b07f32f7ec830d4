use Rattle.std.proofs.Common.{◌∙◌, sym, arith}
use Rattle.sqlite.specs.State.{HasCleanDisk}
use Rattle.sqlite.specs.Held.{state}
use Rattle.tables_load_roots.proofs.Loads.{failed_load}
use Rattle.tables_rows.proofs.Several.{one_failed, memory_failed}
use Rattle.tables_load_roots.proofs.table.load_table.Goals as goal

pub returns-in_err-rows : goal.returns-in_err-rows
returns-in_err-rows g c =
    failed_load _ _ c.from_residual.result _ _ _ _ _ c.from_residual.ensures.1
    (one_failed _ _ c.from_residual.result _ c.from_residual.ensures.1 c.all.ensures.frame c.in_err-rows.ensures.cause)

pub returns-in_err-sound : goal.returns-in_err-sound
returns-in_err-sound g c =
    failed_load _ _ c.from_residual-in_err-sound.result _ _ _ _ _ c.from_residual-in_err-sound.ensures.1
    (memory_failed _ _ c.from_residual-in_err-sound.result c.from_residual-in_err-sound.ensures.1 c.all.ensures.frame)

pub returns : goal.returns
returns g c = record {
  read =
      record {
        frame = c.all.ensures.frame;
        unchanged = λ clean. (c.in_ok-rows.ensures.reads clean).0;
        cause = λ _. tt;
      };
  reported = λ clean.
      let early : HasCleanDisk (state g.S.Store c.args.conn.now) =
      omega (arith, c.all.ensures.frame.survives.clean, clean) in
      c.in_ok-sound.ensures.reported
      ∙ ((c.in_ok-rows.ensures.reads clean).1 c.args.outline.now (c.requires.roots.fits early)).reported;
  loaded = λ clean ok.
      let early : HasCleanDisk (state g.S.Store c.args.conn.now) =
      omega (arith, c.all.ensures.frame.survives.clean, clean) in
      let load = (c.in_ok-rows.ensures.reads clean).1 c.args.outline.now (c.requires.roots.fits early) in
      c.in_ok-sound.ensures.loaded ok ∙ load.loaded (sym (c.in_ok-sound.ensures.reported ∙ load.reported) ∙ ok);
}
