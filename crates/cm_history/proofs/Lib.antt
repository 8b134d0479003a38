pub mod LegalHistories
pub mod OpenSlaves
pub mod PhaseSteps
pub mod Runs
pub mod Refused
mod NodeSets
mod Identity
pub mod Started
pub mod Operational
mod Shown
pub mod Replies
