mod AppendedTexts
mod RefusalNames
pub mod Theorems
pub mod judgement
