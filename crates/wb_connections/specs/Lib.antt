pub mod Ready
pub mod Age
pub mod Causes
pub mod Known
pub mod ConverterBytes
pub mod Dispatch
