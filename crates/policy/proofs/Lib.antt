pub mod Documents
pub mod Entries
pub mod KeyWords
pub mod Sets
pub mod TableKeys
pub mod Verdicts
