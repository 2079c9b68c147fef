-- Definitions that private functions and proofs alone need.
pub mod Candidates
pub mod Queues
