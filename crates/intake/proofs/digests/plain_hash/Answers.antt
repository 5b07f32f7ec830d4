use Rattle.std.proofs.Common.{refl, sym, ◌∙◌}
use Rattle.nar.specs.Outcome.{outcome_of}
use Rattle.intake.proofs.Plain.{hash_of_archive, hash_of_fault}
use Rattle.intake.proofs.digests.plain_hash.Goals as goal

pub returns-in-Some : goal.returns-in-Some
returns-in-Some c =
    λ are reported known. sym (hash_of_fault (outcome_of c.args.pieces.now) _ (sym reported ∙ c.in-Some.is))

pub returns-in-None : goal.returns-in-None
returns-in-None c = λ are reported known.
    let bytes = c.args.pieces.now in
    c.hash_if_plain.ensures known ∙ sym
    (hash_of_archive bytes are (outcome_of bytes) refl (sym reported ∙ c.in-None.is))
