pub mod Backwards
pub mod OwnTexts
pub mod Queries
pub mod SpentRow
pub mod Standing
