use Rattle.std.proofs.Common.{[], ◌∷◌, refl}
use Rattle.std.specs.Fmt.{digits}
use Rattle.sqlite.specs.Held.{state}
use Rattle.sqlite_tied.specs.Compute.{everything}
use Rattle.tables_schema.specs.Forms.{temp_root}
use Rattle.tables_sql.proofs.Scans.{on_ok}
use Rattle.tables_sql.proofs.Steps.{clean_before}
use Rattle.tables_make.proofs.FurtherMade.{making_further, makes_last}
use Rattle.tables_make.proofs.further.make_temp_root.Goals as goal

pub all-requires-clause-making : goal.all-requires-clause-making
all-requires-clause-making g c clean =
    making_further (temp_root ∷ []) (state g.S.Store c.args.tx.now.conn.now) (c.requires.under_way clean)
    (λ up. let h = c.requires.tables clean up in ((h.2, tt), h.3))

pub all-requires-clause-distinct : goal.all-requires-clause-distinct
unfolding digits everything
all-requires-clause-distinct g c = refl

pub returns : goal.returns
returns g c = record {
  frame = c.all.ensures.frame;
  done = λ clean.
      let early = clean_before _ _ _ c.all.ensures.frame.survives clean in
      on_ok c.all.result _ _ (λ made. makes_last _ _ (c.requires.under_way early)
      (c.requires.tables early made.was_open) made) (c.all.ensures.done clean);
  cause = c.all.ensures.cause;
}
