-- What the office is asked on, when it refuses, and what else it answers.
pub mod Situation
pub mod Conditions
pub mod Verdict
pub mod Exports
pub mod Answer
-- What a request leaves of the store and the scale.
pub mod Wanted
pub mod Serves
pub mod WithoutStore
pub mod NamedEntry
-- Requests one after the other, stops among them, and the laws on them.
pub mod CourseOfRequests
pub mod Laws
pub mod LawsOfJournals
pub mod Stops
pub mod LawsOfMigration
-- What private functions' contracts need besides.
pub mod helpers
