use Rattle.std.proofs.Common.{Some, refl, ap, ◌∙◌}
use Rattle.nar.specs.String.{string}
use Rattle.intake.specs.Contents.{plain_prefix}
use Rattle.intake.proofs.Plain.{wrapped, five}
use Rattle.intake.proofs.intake.Intake.of_text.Goals as goal

pub returns : goal.returns
unfolding plain_prefix string
returns c =
    five _ _ _ _ _ _ _ _ _ _ _ c.new-intake.ensures c.in_ok-push.ensures.ok.0 c.in_ok-push-2.ensures.ok.0
    c.in_ok-push-3.ensures.ok.0 c.in_ok-push-4.ensures.ok.0 c.in_ok-push-5.ensures.ok.0
    ∙ ap Some (wrapped c.args.contents.now _ _ _ _ refl c.to_le_bytes.ensures refl refl)
