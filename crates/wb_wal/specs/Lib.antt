-- The four rules; the helpers are for private functions and proofs alone.
pub mod Look
pub mod helpers
