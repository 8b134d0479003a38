pub mod Maps
pub mod Inserts
pub mod Listed
pub mod Networks
mod Items
mod Build
pub mod Lines
mod Finds
mod Walk
pub mod ListsRead
pub mod Entries
