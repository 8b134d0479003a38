pub mod Scans
pub mod Scanning
pub mod Compared
