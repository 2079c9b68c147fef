-- Lemmas for the crates above; nothing else of these proofs is used there.
pub mod Narrowing
pub mod Readings
