pub mod Presence
pub mod Forms
pub mod Intact
pub mod StoreTables
pub mod Schemas
pub mod Shapes
