pub mod Appended
pub mod Both
pub mod Found
pub mod Greatest
pub mod NumberOrder
pub mod Partner
pub mod Purged
pub mod Room
