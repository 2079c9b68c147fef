pub mod OneTable
pub mod PurgeTexts
