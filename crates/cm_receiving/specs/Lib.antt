pub mod BootUps
pub mod Cutting
pub mod Doubling
pub mod Identifiers
pub mod Places
pub mod Remarks
pub mod Routing
pub mod Strangers
