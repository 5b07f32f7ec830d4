use Rattle.std.proofs.Common.{◌≡◌, ◌⊎◌, map, ap, ap₂, subst, ◌∙◌}
use Rattle.std.specs.Prelude.{is_none}
use Rattle.paths.specs.StorePath.{base_of}
use Rattle.tool_pure.specs.Object.{object_fault, text_path_answer}
use Rattle.report.specs.Outputs.{change_of}
use Rattle.tool_pure.specs.Stream.{InputFails, IsFailure, result_text}
use Rattle.tool_pure.proofs.Objects.{text_prefix}
use Rattle.std.proofs.lemmas.Result.{err_from_is_err_and}
use Rattle.tool_pure.proofs.Results.{stopped_at, by_line, of_prefix}
use Rattle.tool_pure.proofs.texts.text_path_result.Goals as goal

pub returns-in_err-object : goal.returns-in_err-object
returns-in_err-object g c = record {
  answer =
      let p =
      err_from_is_err_and c.from_residual.result c.from_residual.ensures.1 in
      rw (p.1, p.2) (stopped_at _ _ _ (change_of g.R.Read.remaining c.args.input.now c.read_object.new.input) _
      c.in_err-object.ensures.err);
  reads = c.in_err-object.ensures.reads;
}

pub returns : goal.returns
returns g c = record {
  answer =
      let dir = c.args.dir.now in
      let name = c.args.name.now in
      let bases = map (base_of dir) (map g.S.AsStr.text c.args.references.now) in
      let bytes = c.in_ok-object.contents.items in
      let object = c.in_ok-object.object in
      let lent = c.as_slice.result.now in
      let same : text_path_answer dir object.name object.references.items lent ≡ text_path_answer dir name bases bytes =
      ap₂ (λ n bs. text_path_answer dir n bs lent) c.in_ok-object.ensures.object.1 c.in_ok-object.ensures.object.2
      ∙ ap (text_path_answer dir name bases) c.as_slice.ensures.value in
      let fault = object_fault dir name (map g.S.AsStr.text c.args.references.now) in
      let fails =
      InputFails (is_none fault) 16777105 (change_of g.R.Read.remaining c.args.input.now c.read_object.new.input) in
      let found = by_line fails c.text_line.result _ c.text_line.ensures.ok c.text_line.ensures.err in
      of_prefix fails fault (text_path_answer dir name bases) (g.R.Read.remaining c.args.input.now)
      (result_text c.text_line.result) 16777105 bytes
      c.in_ok-object.ensures.object.0 c.in_ok-object.ensures.bytes
      (λ all e is. is ∙ ap (text_path_answer dir name bases) e ∙ text_prefix dir name bases all)
      (subst (λ a. IsFailure fails (result_text c.text_line.result) ⊎ (result_text c.text_line.result ≡ a)) same found);
  reads = c.in_ok-object.ensures.reads;
}
