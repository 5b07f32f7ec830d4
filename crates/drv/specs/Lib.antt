pub mod Answer
pub mod Derivation
pub mod Faults
pub mod Laws
pub mod Outcome
pub mod Reading
pub mod View
pub mod Written
