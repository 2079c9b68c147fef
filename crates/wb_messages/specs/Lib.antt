-- What happens at a station.
pub mod Happening
-- What the office's answers tell, and its refusals.
pub mod Content
pub mod RefusalText
