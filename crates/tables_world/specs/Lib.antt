pub mod Laws
pub mod Parts
pub mod Pieces
pub mod Rows
pub mod Worlds
