-- Proofs of the witness.
pub mod Digits
pub mod Reading
pub mod Theorems
