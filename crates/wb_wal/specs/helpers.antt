-- Definitions that private functions and proofs alone need.
pub mod Behind
pub mod Commit
pub mod Stop
