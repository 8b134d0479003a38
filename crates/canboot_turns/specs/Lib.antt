pub mod Asking
pub mod Causes
pub mod Driven
pub mod Ending
pub mod Going
pub mod Running
pub mod Sendings
pub mod Steps
