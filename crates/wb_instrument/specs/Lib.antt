-- The rules, in the order in which to read them; the helpers are for private functions and proofs alone.
pub mod Setup
pub mod Interval
pub mod Code
pub mod Serial
pub mod Rounding
pub mod Limits
pub mod Preset
pub mod WeightField
pub mod helpers
