pub mod CallsMade
pub mod Faults
pub mod Heard
pub mod Hearing
pub mod Operated
pub mod ReceivedCalls
pub mod Typing
pub mod Workers
