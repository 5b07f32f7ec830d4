pub mod Calls
pub mod Forbidden
pub mod Laws
pub mod Listing
pub mod Runs
pub mod View
