use Rattle.laws.proofs.Tellings.{records_report, archives_are_the_objects, text_recorded, source_recorded}
use Rattle.laws.proofs.Tellings.{import_recorded}
use Rattle.laws.proofs.adds.records_show_what_was_added.Goals as goal

pub returns-clause-record : goal.returns-clause-record
returns-clause-record c = records_report

pub returns-clause-archive : goal.returns-clause-archive
returns-clause-archive c = archives_are_the_objects

pub returns-clause-text : goal.returns-clause-text
returns-clause-text c = text_recorded

pub returns-clause-source : goal.returns-clause-source
returns-clause-source c = source_recorded

pub returns-clause-import : goal.returns-clause-import
returns-clause-import c = import_recorded
