pub mod Begins
pub mod ListedRuns
