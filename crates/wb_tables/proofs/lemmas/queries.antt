pub mod AllEntries
pub mod Entries
pub mod Journal
pub mod LookUps
pub mod RowByRow
pub mod Selects
pub mod Version
