pub mod Listed
pub mod States
pub mod Changes
pub mod Standing
pub mod Compact
