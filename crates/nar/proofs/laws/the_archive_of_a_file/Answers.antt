use Rattle.nar.proofs.Files.{length-file, file_is_read, file_is_too_large}
use Rattle.nar.proofs.laws.the_archive_of_a_file.Goals as goal

pub returns-clause-size : goal.returns-clause-size
returns-clause-size c = length-file

pub returns-clause-is_read : goal.returns-clause-is_read
returns-clause-is_read c = file_is_read

pub returns-clause-is_too_large : goal.returns-clause-is_too_large
returns-clause-is_too_large c = file_is_too_large
