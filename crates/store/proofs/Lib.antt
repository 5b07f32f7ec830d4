pub mod Alike
pub mod Clean
pub mod FromDisk
pub mod Pinned
pub mod Replied
pub mod Runs
pub mod Spent
pub mod Verdicts
