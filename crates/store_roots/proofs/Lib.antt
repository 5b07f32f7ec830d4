pub mod ProfileChanges
pub mod RuntimePairs
