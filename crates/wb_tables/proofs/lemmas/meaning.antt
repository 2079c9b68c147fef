pub mod OnlyAsks
