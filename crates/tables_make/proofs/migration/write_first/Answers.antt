use Rattle.std.proofs.Common.{inl, map, string_bytes, ap, subst, ◌∙◌}
use Rattle.sqlite.specs.Held.{state}
use Rattle.tables_schema.specs.declared.schema.Schema.TheVariants.{V1}
use Rattle.tables_sql.specs.Contents.{Contents, contents_of}
use Rattle.tables_sql.proofs.Steps.{clean_before}
use Rattle.tables_sql.proofs.TestFailures.{passed_on}
use Rattle.tables_make.specs.Migrating.{FailsToPutBy, RewrittenRows}
use Rattle.tables_make.proofs.MigratingFailures.{rows_fail}
use Rattle.tables_rows.proofs.Reasons.{as_reason}
use Rattle.tables_make.proofs.Uncut.{no_pieces, none_cut}
use Rattle.tables_make.proofs.Grown.{both_named, grows, makes_under, on_done}
use Rattle.tables_rows.proofs.Failed.{none_done}
use Rattle.tables_make.proofs.Inside.{write_after}
use Rattle.tables_make.proofs.migration.write_first.Goals as goal

pub make_both-requires : goal.make_both-requires
make_both-requires g c = record { under_way = c.requires.under_way; tables = c.requires.tables }

pub rewrite-requires : goal.rewrite-requires
rewrite-requires g c =
    let a = state g.S.Store c.args.tx.now.conn.now in
    let b = state g.S.Store c.make_both.new.tx.conn.now in
    record {
      under_way = λ clean. makes_under _ a b (c.in_ok-make_both.ensures.done clean);
      is_open = λ clean. (c.in_ok-make_both.ensures.done clean).is_open;
      exists = λ clean. (c.in_ok-make_both.ensures.done clean).exist.0;
      -- none of the archives is cut in a schema that has no pieces
      fits = λ clean.
          let made = c.in_ok-make_both.ensures.done clean in
          let first = c.requires.tables (clean_before a b _ c.make_both.ensures.frame.survives clean) made.was_open in
          none_cut (contents_of b.now) (ap (λ (x : Contents). x.pieces) made.contents ∙ no_pieces a.now first.1);
    }

pub returns : goal.returns
returns g c = record {
  frame =
      write_after g.S.Store c.args.tx.now.conn c.make_both.new.tx.conn c.rewrite.new.tx.conn _ c.rewrite.result
      c.make_both.ensures.frame c.rewrite.ensures.frame c.rewrite.ensures.done;
  done = λ clean.
      let a = state g.S.Store c.args.tx.now.conn.now in
      let b = state g.S.Store c.make_both.new.tx.conn.now in
      let d = state g.S.Store c.rewrite.new.tx.conn.now in
      let made = c.in_ok-make_both.ensures.done (clean_before b d _ c.rewrite.ensures.frame.survives clean) in
      on_done c.rewrite.result _ _ (λ changed. grows _ a b d _ made changed made.exist.0 made.exist.1.0)
      (c.rewrite.ensures.done clean);
  cause = λ clean.
      let a = state g.S.Store c.args.tx.now.conn.now in
      let b = state g.S.Store c.make_both.new.tx.conn.now in
      let d = state g.S.Store c.rewrite.new.tx.conn.now in
      let made = c.in_ok-make_both.ensures.done (clean_before b d _ c.rewrite.ensures.frame.survives clean) in
      let bases = map string_bytes c.args.bases.now in
      as_reason _ _ (λ f h. subst (λ (x : Contents). FailsToPutBy (RewrittenRows x bases) V1 a d f) made.contents
      (rows_fail V1 both_named a b d made c.make_both.ensures.frame.survives
      (RewrittenRows (contents_of b.now) bases) f h)) c.rewrite.result (c.rewrite.ensures.cause clean);
}

pub returns-in_err-make_both : goal.returns-in_err-make_both
returns-in_err-make_both g c = record {
  frame = c.make_both.ensures.frame;
  done = λ clean. none_done c.from_residual.result _ _ c.from_residual.ensures.1;
  cause =
      λ clean. passed_on c.from_residual.result _ _ c.from_residual.ensures.1
      (inl (c.in_err-make_both.ensures.cause clean));
}
