pub mod Changes
pub mod Growing
pub mod Items
pub mod Row
pub mod Unnamed
pub mod Words
