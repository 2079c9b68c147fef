-- The rules, in the order in which to read them.
pub mod Counts
pub mod Answer
pub mod Outbox
pub mod Sample
pub mod Filter
pub mod Sensitivity
pub mod Weights
pub mod Taken
pub mod Statuses
pub mod Laws
pub mod Offer
pub mod FilterLaws
