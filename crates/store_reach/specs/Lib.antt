pub mod Found
pub mod FirstRoot
pub mod Linked
pub mod Reached
pub mod Removal
pub mod Sizes
pub mod Unique
