use Rattle.std.proofs.Common.{◌≡◌, ℕ, List, Some, Ok, sym, ap, ◌∙◌}
use Rattle.std.specs.Option.{option_copied}
use Rattle.nar.specs.Outcome.{outcome_of}
use Rattle.intake.specs.Contents.{contents_of}
use Rattle.tables_load_objects.proofs.OfText.{of_text, of_none}
use Rattle.tables_load_objects.proofs.recorded.derivation_outputs.Goals as goal

pub returns-in-Some : goal.returns-in-Some
returns-in-Some c = λ t is.
    let read : Some c.in-Some.text.now ≡ contents_of (Ok t) =
    sym (ap option_copied c.in-Some.is) ∙ c.in_ok-text.ensures
    ∙ ap (λ (l : List ℕ). contents_of (outcome_of l)) (c.deref.ensures.value ∙ c.in_ok-bytes.ensures)
    ∙ ap contents_of is in
    of_text c.args.dir.now c.in-Some.text.now t read c.outputs_of.result c.outputs_of.ensures

pub returns : goal.returns
returns c = λ t is.
    of_none c.args.dir.now t (sym (ap option_copied c.in-None.is) ∙ c.in_ok-text.ensures
    ∙ ap (λ (l : List ℕ). contents_of (outcome_of l)) (c.deref.ensures.value ∙ c.in_ok-bytes.ensures)
    ∙ ap contents_of is)
