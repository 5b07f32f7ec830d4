pub mod Along
pub mod Asked
pub mod Chosen
pub mod Held
pub mod Seen
pub mod Spent
