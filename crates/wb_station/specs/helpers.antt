pub mod Hearing
pub mod RoomShows
