-- What a history makes of a station, and what it puts out.
pub mod Account
pub mod Unmade
pub mod Stands
pub mod Notices
pub mod RunOfEvents
pub mod Laws
pub mod CourseOfHistory
-- What the sources of a service answer and are handed, and sources in memory.
pub mod SourceAnswers
pub mod SourcesInMemory
-- What the calls say besides, of an output that is lent or kept.
pub mod OutputShows
pub mod AfterBorrow
pub mod KeptOutputs
-- What private functions' contracts need besides.
pub mod helpers
