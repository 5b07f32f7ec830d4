use Rattle.std.proofs.Common.{sym, ap, ◌∙◌, arith}
use Rattle.std.specs.List.{list_all}
use Rattle.std.specs.FinMap as finite
use Rattle.sqlite.specs.Effect.{Database}
use Rattle.sqlite.specs.State.{HasCleanDisk}
use Rattle.sqlite.specs.Held.{state}
use Rattle.tables_sql.specs.Contents.{contents_of}
use Rattle.tables_world.specs.Worlds.{world_in}
use Rattle.tables_outline.specs.LoadedEntries.{has_currents}
use Rattle.tables_outline.specs.Outline.{OutlineValue}
use Rattle.tables_load_roots.specs.Loaded.{is_profile, is_generation, bare_profiles}
use Rattle.tables_load_roots.proofs.ThreeTests.{second_failed, third_decides}
use Rattle.tables_load_roots.proofs.Loads.{failed_load, load_stops}
use Rattle.std.proofs.lemmas.Bool.{false≢true}
use Rattle.tables_rows.proofs.Several.{several_failed, reads_done, reads_then}
use Rattle.tables_load_roots.proofs.profiles.read.Goals as goal

pub load_table-requires-clause-roots : goal.load_table-requires-clause-roots
load_table-requires-clause-roots g c = record { frame = c.requires.frame; fits = c.requires.fits }

pub load_table-requires-2-clause-roots : goal.load_table-requires-2-clause-roots
load_table-requires-2-clause-roots g c =
    let left = c.load_table.ensures.read.frame in
    record {
      frame = record { idle = left.idle; ready = left.ready };
      fits = λ clean.
          let same = (c.in_ok-load_table.ensures.read.unchanged clean).0.now_is in
          ap (λ (o : OutlineValue). o.profiles) (c.in_ok-load_table.ensures.loaded clean c.if-not-branch.false)
          ∙ ap (λ (d : Database). bare_profiles (contents_of d).profiles) (sym same);
    }

pub returns-in_err-load_table : goal.returns-in_err-load_table
returns-in_err-load_table g c =
    failed_load _ _ c.from_residual.result _ _ _ _ _ c.from_residual.ensures.1
    (several_failed _ _ c.from_residual.result _ c.from_residual.ensures.1 c.load_table.ensures.read.frame
    c.in_err-load_table.ensures.read.cause)

pub returns-then-not-branch : goal.returns-then-not-branch
returns-then-not-branch g c = load_stops _ _ _ _ _ _ _ c.in_ok-load_table.ensures _ _ c.if-not-branch.true

pub returns-in_err-load_table-2 : goal.returns-in_err-load_table-2
returns-in_err-load_table-2 g c =
    failed_load _ _ c.from_residual-in_err-load_table-2.result _ _ _ _ _ c.from_residual-in_err-load_table-2.ensures.1
    (reads_then _ _ _ c.from_residual-in_err-load_table-2.result c.load_table.ensures.read.frame
    c.in_ok-load_table.ensures.read.unchanged
    (several_failed _ _ _ _ c.from_residual-in_err-load_table-2.ensures.1 c.load_table-2.ensures.read.frame
    c.in_err-load_table-2.ensures.read.cause))

pub returns-then-not-branch-2 : goal.returns-then-not-branch-2
returns-then-not-branch-2 g c = record {
  read =
      reads_done _ _ _ _ (reads_then _ _ _ _ c.load_table.ensures.read.frame c.in_ok-load_table.ensures.read.unchanged
      c.in_ok-load_table-2.ensures.read);
  reported = λ clean.
      let middle : HasCleanDisk (state g.S.Store c.load_table.new.conn) =
      omega (arith, c.load_table-2.ensures.read.frame.survives.clean, clean) in
      let same = (c.in_ok-load_table.ensures.read.unchanged middle).0.now_is in
      let outline = c.in_ok-load_table.ensures.loaded middle c.if-not-branch.false in
      second_failed (list_all is_profile (finite.entries (contents_of (state g.S.Store c.args.conn.now).now).profiles))
      _ _ (sym (c.in_ok-load_table.ensures.reported middle) ∙ c.if-not-branch.false)
      (sym (λ i. list_all (is_generation (outline i).objects (contents_of (same i)).profiles)
      (finite.entries (contents_of (same i)).generations)) ∙ sym (c.in_ok-load_table-2.ensures.reported clean)
      ∙ c.if-not-branch-2.true);
  loaded = λ _ no. absurd (false≢true no);
}

pub returns : goal.returns
returns g c = record {
  read =
      reads_done _ _ _ _ (reads_then _ _ _ _ c.load_table.ensures.read.frame c.in_ok-load_table.ensures.read.unchanged
      c.in_ok-load_table-2.ensures.read);
  reported = λ clean.
      let middle : HasCleanDisk (state g.S.Store c.load_table.new.conn) =
      omega (arith, c.load_table-2.ensures.read.frame.survives.clean, clean) in
      let same = (c.in_ok-load_table.ensures.read.unchanged middle).0.now_is in
      let outline = c.in_ok-load_table.ensures.loaded middle c.if-not-branch.false in
      third_decides (list_all is_profile (finite.entries (contents_of (state g.S.Store c.args.conn.now).now).profiles))
      _ _ _ (sym (c.in_ok-load_table.ensures.reported middle) ∙ c.if-not-branch.false)
      (sym (λ i. list_all (is_generation (outline i).objects (contents_of (same i)).profiles)
      (finite.entries (contents_of (same i)).generations)) ∙ sym (c.in_ok-load_table-2.ensures.reported clean)
      ∙ c.if-not-branch-2.false)
      (c.has_currents.ensures ∙ ap (λ (o : OutlineValue). has_currents o.profiles)
      (c.in_ok-load_table-2.ensures.loaded clean c.if-not-branch-2.false)
      ∙ ap (λ (d : Database). has_currents (world_in (contents_of d)).profiles) same);
  loaded = λ clean ok.
      let middle : HasCleanDisk (state g.S.Store c.load_table.new.conn) =
      omega (arith, c.load_table-2.ensures.read.frame.survives.clean, clean) in
      let same = (c.in_ok-load_table.ensures.read.unchanged middle).0.now_is in
      let outline = c.in_ok-load_table.ensures.loaded middle c.if-not-branch.false in
      c.in_ok-load_table-2.ensures.loaded clean c.if-not-branch-2.false
      ∙ (λ i. record (outline i) { profiles = (world_in (contents_of (same i))).profiles });
}
