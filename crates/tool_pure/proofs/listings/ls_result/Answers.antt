use Rattle.std.proofs.Common.{◌≡◌, ◌⊎◌, true, None, Err, ap, inl, refl, subst, ◌∙◌}
use Rattle.std.proofs.lemmas.Result.{err_from_is_err_and}
use Rattle.tool_pure.specs.Archive.{ls_answer}
use Rattle.report.specs.Outputs.{change_of}
use Rattle.tool_pure.specs.Stream.{InputFails, IsFailure, result_text}
use Rattle.tool_pure.proofs.Archives.{ls_prefix}
use Rattle.tool_pure.proofs.Results.{by_line, lost, of_prefix}
use Rattle.tool_pure.proofs.listings.ls_result.Goals as goal

pub returns : goal.returns
returns g c = record {
  answer =
      let bytes = c.in_ok-nar.nar.items in
      let fails = InputFails true 16777224 (change_of g.R.Read.remaining c.args.input.now c.read_input.new.input) in
      let found = by_line fails c.listing.result _ c.listing.ensures.ok c.listing.ensures.err in
      of_prefix fails None ls_answer (g.R.Read.remaining c.args.input.now) (result_text c.listing.result) 16777224 bytes
      refl c.in_ok-nar.ensures.ok (λ all e is. is ∙ ap ls_answer e ∙ ls_prefix all)
      (subst (λ a. IsFailure fails (result_text c.listing.result) ⊎ (result_text c.listing.result ≡ ls_answer a))
      c.as_slice.ensures.value found);
  reads = c.in_ok-nar.ensures.read.reads;
}

pub returns-in_err-nar : goal.returns-in_err-nar
returns-in_err-nar g c = record {
  answer =
      let p = err_from_is_err_and c.from_residual.result c.from_residual.ensures.1 in
      rw (p.1, p.2) (inl (lost true 16777224 (change_of g.R.Read.remaining c.args.input.now c.read_input.new.input) _
      refl c.in_err-nar.ensures.read.err
      (λ is. c.in_err-nar.ensures.read.input (ap (λ e. Err e) is))));
  reads = c.in_err-nar.ensures.read.reads;
}
