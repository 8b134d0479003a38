pub mod SlaveFaults
pub mod SlaveWords
pub mod Simulated
pub mod Run
pub use Rattle.cm_netlist.specs.ListsRead
