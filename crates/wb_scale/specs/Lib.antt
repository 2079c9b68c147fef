-- The rules, in the order in which to read them; the helpers are for private functions and proofs alone.
pub mod Call
pub mod Moment
pub mod Zero
pub mod Tracking
pub mod Tare
pub mod History
pub mod Indication
pub mod Cleared
pub mod State
pub mod Stands
pub mod Drift
pub mod Steady
pub mod Unmarked
pub mod helpers
