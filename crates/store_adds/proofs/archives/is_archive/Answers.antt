use Rattle.std.proofs.Common.{sym, ◌∙◌}
use Rattle.nar.specs.Outcome.{outcome_of}
use Rattle.store_adds.proofs.ArchiveFaults.{no_fault, a_fault}
use Rattle.store_adds.proofs.archives.is_archive.Goals as goal

pub returns-in_default : goal.returns-in_default
returns-in_default c = no_fault (outcome_of c.args.nar.now.pieces) c.args.nar.now.fault c.requires c.in_default.is

pub returns-in-Some-of_archive : goal.returns-in-Some-of_archive
returns-in-Some-of_archive c =
    sym (a_fault (outcome_of c.args.nar.now.pieces) c.args.nar.now.fault c.in-Some.fault c.requires c.in-Some.is)
    ∙ sym c.in-Some-of_archive.ensures

pub returns-in-None : goal.returns-in-None
returns-in-None c =
    sym (a_fault (outcome_of c.args.nar.now.pieces) c.args.nar.now.fault c.in-Some.fault c.requires c.in-Some.is)
    ∙ sym c.in-None.ensures
