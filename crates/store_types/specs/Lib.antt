pub mod Meets
pub mod Spent
pub mod Stops
pub mod Tested
pub mod View
