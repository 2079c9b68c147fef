pub mod Keeping
pub mod Hearing
pub mod Serials
pub mod Steps
