-- The files next to a journal.
pub mod Witness
