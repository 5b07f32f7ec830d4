use Rattle.laws.proofs.ObjectListings.{listings_are_the_objects}
use Rattle.laws.proofs.listings.listings_are_of_the_object.Goals as goal

pub returns : goal.returns
returns c = listings_are_the_objects
