use Rattle.std.proofs.Common.{ap, ◌∙◌}
use Rattle.std.specs.FinMap as finite
use Rattle.sqlite.specs.Effect.{Database}
use Rattle.sqlite.specs.Held.{state}
use Rattle.sqlite.proofs.Callers.{unchanged_then}
use Rattle.tables_sql.specs.Contents.{contents_of}
use Rattle.tables_rows.proofs.Several.{left_then, one_failed, several_failed, finds_failed, reads_then}
use Rattle.tables_load_objects.proofs.ReadRows.{by_after, clean_before, unchanged_both}
use Rattle.tables_load_objects.proofs.joined.read_joined.Goals as goal

pub keys_of-requires-clause-opened : goal.keys_of-requires-clause-opened
keys_of-requires-clause-opened g c clean = (c.in_ok-outputs.ensures.found.reads clean).0.0.is_open

pub keys_of-requires-clause-tables : goal.keys_of-requires-clause-tables
keys_of-requires-clause-tables g c =
    by_after c.args.schema c.args.conn.now c.find-2.new.conn
    (left_then _ _ _ c.find.ensures.found.frame c.find-2.ensures.found.frame)
    (unchanged_both (state g.S.Store c.args.conn.now) (state g.S.Store c.find.new.conn)
    (state g.S.Store c.find-2.new.conn)
    (λ early. (c.in_ok-references.ensures.found.reads early).0) (λ late. (c.in_ok-outputs.ensures.found.reads late).0)
    c.find-2.ensures.found.frame.survives) c.requires

pub returns-in_err-references : goal.returns-in_err-references
returns-in_err-references g c =
    finds_failed _ _ c.from_residual.result _ _ c.from_residual.ensures.1
    (one_failed _ _ _ _ c.from_residual.ensures.1 c.find.ensures.found.frame
    c.in_err-references.ensures.found.cause)

pub returns-in_err-outputs : goal.returns-in_err-outputs
returns-in_err-outputs g c =
    finds_failed _ _ c.from_residual-in_err-outputs.result _ _ c.from_residual-in_err-outputs.ensures.1
    (reads_then c.args.conn.now c.find.new.conn c.find-2.new.conn _ c.find.ensures.found.frame
    (λ clean. (c.in_ok-references.ensures.found.reads clean).0)
    (one_failed _ _ _ _ c.from_residual-in_err-outputs.ensures.1 c.find-2.ensures.found.frame
    c.in_err-outputs.ensures.found.cause))

pub returns-in_err-pieces : goal.returns-in_err-pieces
returns-in_err-pieces g c =
    finds_failed _ _ c.from_residual-in_err-pieces.result _ _ c.from_residual-in_err-pieces.ensures.1
    (reads_then c.args.conn.now c.find.new.conn c.keys_of.new.conn _ c.find.ensures.found.frame
    (λ clean. (c.in_ok-references.ensures.found.reads clean).0)
    (reads_then c.find.new.conn c.find-2.new.conn c.keys_of.new.conn _ c.find-2.ensures.found.frame
    (λ clean. (c.in_ok-outputs.ensures.found.reads clean).0)
    (several_failed _ _ _ _ c.from_residual-in_err-pieces.ensures.1 c.keys_of.ensures.frame
    c.in_err-pieces.ensures.cause)))

pub returns : goal.returns
returns g c =
    let s0 = state g.S.Store c.args.conn.now in
    let s1 = state g.S.Store c.find.new.conn in
    let s2 = state g.S.Store c.find-2.new.conn in
    let s3 = state g.S.Store c.keys_of.new.conn in
    record {
      frame =
          left_then _ _ _ c.find.ensures.found.frame
          (left_then _ _ _ c.find-2.ensures.found.frame c.keys_of.ensures.frame);
      reads = λ clean.
          let clean2 = clean_before s2 s3 (λ _. ⊥) c.keys_of.ensures.frame.survives clean in
          let clean1 = clean_before s1 s2 (λ _. ⊥) c.find-2.ensures.found.frame.survives clean2 in
          let one = c.in_ok-references.ensures.found.reads clean1 in
          let two = c.in_ok-outputs.ensures.found.reads clean2 in
          let three = c.in_ok-pieces.ensures.reads clean in
          let both = unchanged_then s0 s1 s2 one.0 two.0 in (
            unchanged_then s0 s2 s3 both three.0,
            record {
              references = one.1;
              outputs = two.1 ∙ ap (λ (d : Database). finite.entries (contents_of d).outs) one.0.0.now_is;
              pieces = three.1 ∙ ap (λ (d : Database). finite.keys (contents_of d).pieces) both.0.now_is;
            },
          );
      cause = λ _. tt;
    }
