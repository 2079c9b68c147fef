pub mod changes
pub mod lists
pub mod meaning
pub mod open_weighings
pub mod queries
pub mod rows
pub mod spent
pub mod states
