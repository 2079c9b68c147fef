-- The rules, in the order in which to read them; the helpers are for private functions and proofs alone.
pub mod Event
pub mod Lines
pub mod Commands
pub mod Waiting
pub mod Repetition
pub mod Calls
pub mod Answers
pub mod Replies
pub mod ReplyText
pub mod Stands
pub mod Heard
pub mod helpers
