pub mod Questions
pub mod Progress
pub mod BootView
pub mod Procedure
pub mod Talk
