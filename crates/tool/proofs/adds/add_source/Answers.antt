use Rattle.std.proofs.Common.{None, Err, subst, sym}
use Rattle.std.specs.Prelude.{is_ok}
use Rattle.std.proofs.lemmas.Result.{err_from_is_err_and}
use Rattle.model.specs.Request.{add_source}
use Rattle.tool_words.specs.Asked.{object_view}
use Rattle.report.specs.Outputs.{change_of}
use Rattle.tool_pure.specs.Stream.{InputFails}
use Rattle.nar.specs.Tree.{IsBytes}
use Rattle.intake.specs.Arrival.{bytes_in}
use Rattle.tool.specs.Requests.{Gives, StepsAs, on_object, with_bytes}
use Rattle.tool_pure.proofs.Results.{unread}
use Rattle.tool.proofs.RefusedPrefixes.{archive_step}
use Rattle.tool.proofs.Requested.{over}
use Rattle.tool.proofs.Whole.{object_came}
use Rattle.tool.proofs.adds.add_source.Goals as goal

pub returns-in_err-arguments : goal.returns-in_err-arguments
returns-in_err-arguments g c =
    let wanted = on_object c.args.dir.now (object_view c.args.object.now) (λ m ss b. add_source m ss b) in
    let p = err_from_is_err_and c.from_residual.result c.from_residual.ensures.1 in record {
      asked =
          rw (p.1, p.2) (over (InputFails (is_ok wanted) 16777224
          (change_of g.R.Read.remaining c.args.input.now c.args.input.now))
          (λ bytes. Gives (with_bytes bytes wanted)) (g.R.Read.remaining c.args.input.now) (Err _)
          (c.in_err-arguments.ensures.err (λ m ss b. add_source m ss b)));
      reads = unread None 16777224 (g.R.Read.remaining c.args.input.now);
    }

pub returns : goal.returns
returns g c =
    let n = c.in_ok-arguments.arguments.name in
    let rs = c.in_ok-arguments.arguments.references in record {
      asked =
          object_came c.args.dir.now (object_view c.args.object.now) (λ m ss b. add_source m ss b)
          (change_of g.R.Read.remaining c.args.input.now c.receive_archive.new.input) n rs.items 16777224
          bytes_in _ c.receive_archive.result c.source_of.result
          (c.in_ok-arguments.ensures.ok (λ m ss b. add_source m ss b)) c.source_of.ensures
          c.receive_archive.ensures.ok c.receive_archive.ensures.read.err c.receive_archive.ensures.read.input
          c.receive_archive.ensures.bytes
          (λ x good all is. subst (λ b. StepsAs (add_source n rs.items b) (add_source n rs.items all)) (sym is)
          (archive_step n rs.items all (subst IsBytes is good)));
      reads = c.receive_archive.ensures.read.reads;
    }
