use Rattle.report.proofs.Listings.{listings}
use Rattle.report.proofs.laws.listings_lose_nothing.Goals as goal

pub returns : goal.returns
returns c = listings
