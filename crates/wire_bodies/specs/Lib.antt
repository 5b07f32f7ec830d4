pub mod Bodies
pub mod Faults
pub mod Prefix
pub mod Kinds
pub mod Lines
pub mod Parts
pub mod Values
