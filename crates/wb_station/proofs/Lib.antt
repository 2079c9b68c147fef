mod Accounts
mod BytesOfReplies
mod Courses
mod HeardEvents
mod Notices
mod OfficeRequests
mod OneHistory
mod RunsSoFar
mod SourcesInMemory
pub mod Theorems
pub mod offered
