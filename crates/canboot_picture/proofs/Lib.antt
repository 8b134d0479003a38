pub mod Drawable
mod Elements
mod Ends
mod Puts
mod Rows
mod Runs
mod Whole
mod Written
