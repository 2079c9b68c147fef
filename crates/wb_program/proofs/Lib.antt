mod HeadLines
mod OneLine
mod PerformedHappenings
mod ReplayedLines
mod SourceAnswers
pub mod Theorems
mod TraceEnds
mod Turns
mod TypedTexts
mod WrittenTexts
