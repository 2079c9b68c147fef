-- The rules, in the order in which to read them; the helpers are for private functions and proofs alone.
pub mod Turned
pub mod Calibration
pub mod Fault
pub mod Readings
pub mod Filter
pub mod Line
pub mod Laws
pub mod helpers
