pub mod Laws
pub mod Narinfo
pub mod Outputs
pub mod Replies
pub mod Stops
pub mod Usage
pub mod Worked
