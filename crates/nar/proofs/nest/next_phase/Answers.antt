use Rattle.std.proofs.Common.{codes}
use Rattle.nar.specs.declared.nest.Phase.TheVariants as phases
use Rattle.nar.proofs.Nests.{word_goes}
use Rattle.nar.proofs.nest.next_phase.Goals as goal

pub returns-in-Magic : goal.returns-in-Magic
returns-in-Magic c =
    λ last names h. rw c.in-Magic.is
    (word_goes c.args.text.now (codes "nix-archive-1") phases.Open c.word_phase.result last names c.word_phase.ensures)
