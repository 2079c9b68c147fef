pub mod Performed
pub mod RunEnds
pub mod TurnParts
