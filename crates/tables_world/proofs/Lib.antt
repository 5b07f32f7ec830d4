pub mod Columns
pub mod Cuts
pub mod Migrating
pub mod NewRows
pub mod NewWorld
pub mod Recorded
pub mod SoundParts
pub mod Reported
