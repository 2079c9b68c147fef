pub mod AskedByHead
pub mod FoundBytes
pub mod HeadPlaces
pub mod LengthSaid
pub mod ToldByParts
