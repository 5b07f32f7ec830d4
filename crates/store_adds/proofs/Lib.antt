pub mod AddedImports
pub mod AddedObjects
pub mod AddedSources
pub mod Addresses
pub mod ArchiveFaults
pub mod Complete
pub mod Ordered
pub mod TextArchives
