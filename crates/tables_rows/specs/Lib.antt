pub mod Frames
pub mod Keys
pub mod Ranges
pub mod Entries
pub mod Reasons
pub mod ObjectRows
