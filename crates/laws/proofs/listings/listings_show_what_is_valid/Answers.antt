use Rattle.laws.proofs.Tellings.{listings_report, root_listings_report, reports_agree}
use Rattle.laws.proofs.listings.listings_show_what_is_valid.Goals as goal

pub returns-clause-paths : goal.returns-clause-paths
returns-clause-paths c = listings_report

pub returns-clause-roots : goal.returns-clause-roots
returns-clause-roots c = root_listings_report

pub returns-clause-report : goal.returns-clause-report
returns-clause-report c = reports_agree
