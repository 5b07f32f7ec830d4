pub mod FirstEntries
pub mod Growing
pub mod Hashing
pub mod Inserted
pub mod Plain
