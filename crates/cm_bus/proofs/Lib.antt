pub mod Given
pub mod Giving
pub mod Messages
pub mod Sending
pub mod Waiting
