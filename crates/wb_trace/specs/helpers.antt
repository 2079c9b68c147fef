pub mod LineEvents
pub mod TakenFromReader
