pub mod Disk
pub mod Durability
pub mod Causes
pub mod Crashes
pub mod Meets
pub mod RowsPut
pub mod Summaries
pub mod Answers
