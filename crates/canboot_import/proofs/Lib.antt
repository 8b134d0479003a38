pub mod Given
pub mod Told
