pub mod Buses
pub mod Simulated
pub mod RunTexts
pub mod SlaveFolds
pub mod SlavesGiven
