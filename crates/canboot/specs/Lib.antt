pub mod Program
pub use Rattle.canboot_check.specs.Check
