pub mod Tellers
pub mod ToldHistory
pub mod Tell
