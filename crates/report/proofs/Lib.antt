pub mod Joined
pub mod Labels
pub mod Lacking
pub mod Listings
pub mod Numbered
pub mod Stops
pub mod Table
pub mod Worked
