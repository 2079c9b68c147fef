-- The tables, and the two lists that they hold.
pub mod Tables
pub mod HasTables
pub mod TablesThere
pub mod Rows
pub mod Lists
pub mod Purging
pub mod OpenTable
pub mod Counting
pub mod Holds
-- What contracts need besides.
pub mod helpers
