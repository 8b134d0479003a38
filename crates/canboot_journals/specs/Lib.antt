pub mod Ended
pub mod Mend
pub mod Replay
pub mod Expected
pub mod ExpectedAnswer
