use Rattle.laws.proofs.ObjectListings.{reporting_changes_nothing}
use Rattle.laws.proofs.listings.reads_change_nothing.Goals as goal

pub returns : goal.returns
returns c = reporting_changes_nothing
