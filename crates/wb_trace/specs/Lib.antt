-- The lines of a trace, and what happens at them.
pub mod Words
pub mod Numerals
pub mod TraceLines
pub mod RequestLines
pub mod Trace
-- What the calls say besides: of a line that was read, and of the reader.
pub mod helpers
