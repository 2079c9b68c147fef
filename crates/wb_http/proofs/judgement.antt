pub mod AskedByHead
pub mod FirstFaults
pub mod Heads
pub mod Lengths
pub mod PatternRows
pub mod RoutesFound
pub mod WholeRequests
