pub mod Explain
pub mod Explained
