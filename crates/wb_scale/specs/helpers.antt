-- Definitions that private functions and proofs alone need.
pub mod After
pub mod Load
