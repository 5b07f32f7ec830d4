pub mod Defaults
pub mod Entering
pub mod Numbers
