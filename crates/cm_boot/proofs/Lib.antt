pub mod Due
pub mod Order
pub mod Stays
pub mod Proper
pub mod Moves
pub mod Asked
pub mod Talked
pub mod Reached
