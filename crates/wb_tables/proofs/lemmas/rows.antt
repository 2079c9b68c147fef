pub mod Apart
pub mod Cells
pub mod Columns
pub mod EntryRow
pub mod OwnKeys
pub mod Refused
