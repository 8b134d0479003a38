pub mod EntryCount
pub mod LineFeeds
pub mod MendLaws
pub mod Reread
pub mod TornTexts
pub mod ExpectedLines
pub mod Inputs
mod ExpectedAnswers
