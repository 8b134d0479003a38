pub mod CallsOfSteps
pub mod Driven
pub mod Ends
pub mod Going
pub mod Sendings
