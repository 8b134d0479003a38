mod BootUps
pub mod Lines
mod OneLine
mod Untold
pub mod Nodes
mod Remarks
