mod Common
mod ConditionsInOrder
mod ExportRecords
mod FoundEntries
mod LoadConditions
mod LookUps
mod Members
mod NewEntries
mod Purges
mod Serving
pub mod Theorems
mod Verdicts
mod courses
