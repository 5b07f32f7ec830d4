use Rattle.std.proofs.Common.{subst}
use Rattle.std.specs.Prelude.{IsUtf8}
use Rattle.sqlite.proofs.StateLemmas.{survives_weaker}
use Rattle.tables_sql.proofs.Scans.{on_ok}
use Rattle.tables_sql.proofs.Steps.{clean_before}
use Rattle.tables_make.proofs.Made.{made_is, leaves_made}
use Rattle.tables_make.proofs.new_tables.make.Goals as goal

pub returns : goal.returns
returns g c = record {
  idle = c.make_and_commit.ensures.idle;
  done = λ clean.
      let early = clean_before _ _ _ c.make_and_commit.ensures.survives clean in
      on_ok c.make_and_commit.result _ _
      (λ made. made_is c.args.store_dir.now _ _ (c.schema-listed.ensures.live made.was_open).0
      (c.requires.none early made.was_open)
      (subst IsUtf8 c.as_bytes-text.ensures.value c.as_bytes-text.ensures.utf8) made)
      (c.make_and_commit.ensures.done clean);
  cause = c.make_and_commit.ensures.cause;
  was_open = c.make_and_commit.ensures.was_open;
  failed = c.make_and_commit.ensures.failed;
  durable = c.make_and_commit.ensures.durable;
  survives =
      survives_weaker _ _ _ _ (λ clean db made.
      let early = clean_before _ _ _ c.make_and_commit.ensures.survives clean in
      leaves_made c.args.store_dir.now _ db (c.schema-listed.ensures.live made.0).0 (c.requires.none early made.0)
      (subst IsUtf8 c.as_bytes-text.ensures.value c.as_bytes-text.ensures.utf8) made.1)
      c.make_and_commit.ensures.survives;
}
