pub mod LinesRead
pub mod Importing
pub mod Imports
