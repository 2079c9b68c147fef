-- All that knows of version 1.
pub mod VersionOne
pub mod Created
pub mod Migrated
pub mod ToldFirst
-- What private functions' contracts need besides.
pub mod OldTables
pub mod Apart
pub mod Filling
