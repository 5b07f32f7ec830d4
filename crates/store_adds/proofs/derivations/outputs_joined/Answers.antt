use Rattle.std.proofs.Common.{◌≡◌, ℕ, List, sym, ap, ◌∙◌}
use Rattle.nar.specs.Outcome.{outcome_of}
use Rattle.model.specs.Objects.{tree_outputs}
use Rattle.model.specs.Tests.{tree_fault}
use Rattle.intake.specs.Recorded.{outputs_view}
use Rattle.store_adds.proofs.ArchiveFaults.{with_text, no_text, given_as}
use Rattle.store_adds.proofs.derivations.outputs_joined.Goals as goal

pub returns : goal.returns
returns c =
    let dir = c.args.dir.now in
    let same : c.as_slice.result.now ≡ c.args.nar.now = c.as_slice.ensures.value ∙ c.in_ok-nar.ensures in
    let reported = rw c.in-Some.is at c.in_ok-text.ensures in
    let both = with_text dir (outcome_of c.as_slice.result.now) c.in-Some.text.now reported in
    given_as c.outputs_of.result (λ m. outputs_view m.entries) _ _ _ _
    (both.0 ∙ ap (λ (b : List ℕ). tree_fault dir (outcome_of b)) same)
    (both.1 ∙ ap (λ (b : List ℕ). tree_outputs dir (outcome_of b)) same) c.outputs_of.ensures

pub returns-in_default : goal.returns-in_default
returns-in_default c =
    let dir = c.args.dir.now in
    let same : c.as_slice.result.now ≡ c.args.nar.now = c.as_slice.ensures.value ∙ c.in_ok-nar.ensures in
    let reported = rw c.in_default.is at c.in_ok-text.ensures in
    sym (ap (λ (b : List ℕ). tree_fault dir (outcome_of b)) same)
    ∙ no_text dir (outcome_of c.as_slice.result.now) reported
