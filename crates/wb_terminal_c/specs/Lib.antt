-- The rules, in the order in which to read them.
pub mod Passed
pub mod Keeps
pub mod Heard
pub mod Copied
pub mod Shown
pub mod Placed
