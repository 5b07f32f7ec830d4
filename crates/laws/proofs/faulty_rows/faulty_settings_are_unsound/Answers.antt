use Rattle.laws.proofs.FaultyRows.{settings_exclude}
use Rattle.laws.proofs.faulty_rows.faulty_settings_are_unsound.Goals as goal

pub returns : goal.returns
returns c = settings_exclude
