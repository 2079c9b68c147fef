pub mod Causes
pub mod Chained
pub mod Filled
pub mod OldVersion
pub mod Past
pub mod Spends
