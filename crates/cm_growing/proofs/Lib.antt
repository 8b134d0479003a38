mod Adding
mod CurrentNode
mod Items
pub mod LegalEnds
mod Looking
pub mod Prefixes
mod Refreshing
mod RowMoves
mod RowSteps
mod Showing
