pub mod Presets
pub mod Setups
pub mod offered
