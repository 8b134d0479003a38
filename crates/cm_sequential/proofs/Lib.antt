pub mod Listings
pub mod Resets
pub mod Changes
pub mod Going
pub mod Standing
pub mod Granting
pub mod Replays
mod CompactReplays
