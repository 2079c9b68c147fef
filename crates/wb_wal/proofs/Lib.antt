pub mod Behind
pub mod Commits
pub mod Counts
pub mod Refused
pub mod Walk
