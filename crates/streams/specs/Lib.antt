pub mod Cut
pub mod Reads
pub mod Sends
