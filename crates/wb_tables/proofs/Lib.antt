mod Common
pub mod lemmas
pub mod offered
