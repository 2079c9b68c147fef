-- Digits and numbers, what a converter gives, and its lines.
pub mod Digits
pub mod Converted
pub mod Number
pub mod ConverterLines
pub mod PartialLine
