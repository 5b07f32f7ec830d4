pub mod Cut
pub mod Known
pub mod Pieces
pub mod Rising
pub mod Rows
pub mod Loaded
pub mod Loading
pub mod Tested
