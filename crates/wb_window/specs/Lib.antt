-- The rules, in the order in which to read them; the helpers are for private functions and proofs alone.
pub mod Reading
pub mod Stability
pub mod Held
pub mod helpers
