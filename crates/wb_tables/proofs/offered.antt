pub mod EmptyDatabases
pub mod LaterLists
