-- How the bytes of a request are judged.
pub mod RequestBytes
pub mod Routes
pub mod BodyLength
pub mod Form
pub mod HttpJudgement
pub mod WholeRequests
-- The bytes of a response.
pub mod Faults
pub mod Response
-- What the calls say besides: of the router, of want of memory.
pub mod Router
pub mod UnlessMemoryRefused
-- What private functions' contracts need besides.
pub mod helpers
