pub mod Beats
pub mod Guarding
pub mod KeptOfSlaves
pub mod Pasts
pub mod Schedules
pub mod Signals
pub mod Slaves
pub mod Waking
