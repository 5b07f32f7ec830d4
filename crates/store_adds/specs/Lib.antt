pub mod Additions
pub mod Delivered
pub mod Parts
