pub mod Filters
pub mod LinesOfCounts
pub mod Means
pub mod Places
pub mod Theorems
pub mod Tenths
