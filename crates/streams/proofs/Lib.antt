pub mod Cutting
pub mod Fields
pub mod InPieces
pub mod Sending
