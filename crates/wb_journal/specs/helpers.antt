-- Definitions that private functions and proofs alone need.
pub mod FaultBefore
pub mod LeastAbove
pub mod Nearest
pub mod OnSite
