-- A table that a schema has or can be given, and what refers to its rows.
pub mod Tables
pub mod References
-- What a text may do, whatever it means, and what is no fault of its meaning.
pub mod Asking
-- The keys of rows, by which a DELETE takes them out.
pub mod Rowids
