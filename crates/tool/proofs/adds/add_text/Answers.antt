use Rattle.std.proofs.Common.{ℕ, Vec, Global, None, Err, subst, sym}
use Rattle.std.specs.Prelude.{is_ok}
use Rattle.std.proofs.lemmas.Result.{err_from_is_err_and}
use Rattle.model.specs.Request.{add_text}
use Rattle.tool_words.specs.Asked.{object_view}
use Rattle.report.specs.Outputs.{change_of}
use Rattle.tool_pure.specs.Stream.{InputFails}
use Rattle.tool.specs.Requests.{Gives, StepsAs, on_object, with_bytes}
use Rattle.tool_pure.proofs.Results.{unread}
use Rattle.tool.proofs.RefusedPrefixes.{contents_step}
use Rattle.tool.proofs.Requested.{over}
use Rattle.tool.proofs.Whole.{object_came}
use Rattle.tool.proofs.adds.add_text.Goals as goal

pub returns-in_err-arguments : goal.returns-in_err-arguments
returns-in_err-arguments g c =
    let wanted = on_object c.args.dir.now (object_view c.args.object.now) (λ m ss b. add_text m ss b) in
    let p = err_from_is_err_and c.from_residual.result c.from_residual.ensures.1 in record {
      asked =
          rw (p.1, p.2) (over (InputFails (is_ok wanted) 16777105
          (change_of g.R.Read.remaining c.args.input.now c.args.input.now))
          (λ bytes. Gives (with_bytes bytes wanted)) (g.R.Read.remaining c.args.input.now) (Err _)
          (c.in_err-arguments.ensures.err (λ m ss b. add_text m ss b)));
      reads = unread None 16777105 (g.R.Read.remaining c.args.input.now);
    }

pub returns : goal.returns
returns g c =
    let n = c.in_ok-arguments.arguments.name in
    let rs = c.in_ok-arguments.arguments.references in record {
      asked =
          object_came c.args.dir.now (object_view c.args.object.now) (λ m ss b. add_text m ss b)
          (change_of g.R.Read.remaining c.args.input.now c.read_input.new.input) n rs.items 16777105
          (λ (v : Vec ℕ Global). v.items) _ c.read_input.result c.text_of.result
          (c.in_ok-arguments.ensures.ok (λ m ss b. add_text m ss b)) c.text_of.ensures
          c.read_input.ensures.ok c.read_input.ensures.read.err c.read_input.ensures.read.input c.read_input.ensures.ok
          (λ x good all is. subst (λ b. StepsAs (add_text n rs.items b) (add_text n rs.items all)) (sym is)
          (contents_step n rs.items all));
      reads = c.read_input.ensures.read.reads;
    }
