pub mod Ids
mod Agreeing
pub mod Identity
pub mod Both
