pub mod Names
pub mod Shown
