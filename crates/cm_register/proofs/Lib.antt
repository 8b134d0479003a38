pub mod SeatCalls
pub mod SeatLists
pub mod Longer
pub mod Managing
mod Behind
mod Unseen
pub mod SeatsClosed
pub mod Knowing
pub mod MadeCalls
pub mod CallsOfSeats
pub mod Takes
pub mod Seats
