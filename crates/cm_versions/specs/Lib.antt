pub mod Versions
pub mod Telling
