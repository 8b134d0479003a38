pub mod Entries
pub mod Limiting
pub mod Tries
pub mod Waits
