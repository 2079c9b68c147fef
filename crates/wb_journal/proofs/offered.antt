-- Lemmas for the crates above; nothing else of these proofs is used there.
pub mod Chained
pub mod Digests
pub mod Kept
pub mod Members
pub mod Newest
pub mod Open
pub mod OpenCount
pub mod Partners
pub mod Rising
pub mod Seals
