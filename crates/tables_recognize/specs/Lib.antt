pub use Rattle.sqlite_disk.specs.declared.Disk
pub use Rattle.sqlite_disk.specs.declared.calls.Calls as DiskCalls
pub use Rattle.sqlite_disk.specs.declared.modelled.Modelled
pub use Rattle.sqlite_disk.specs.declared.start.Start as DiskStart
pub use Rattle.tables_schema.specs.Forms
pub use Rattle.tables_schema.specs.StoreTables
pub use Rattle.tables_schema.specs.Intact
pub use Rattle.tables_schema.specs.Presence
pub use Rattle.tables_sql.specs.Contents
pub use Rattle.tables_sql.specs.Texts
pub use Rattle.tables_sql.specs.Frozen
pub use Rattle.tables_sql.specs.Calls
pub use Rattle.tables_sql.specs.Failures
pub mod Opened
pub mod Pages
pub mod Tables
pub mod Tests
pub mod Settings
