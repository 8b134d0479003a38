pub mod Picture
pub mod Columns
pub mod Drawn
pub mod Marks
pub mod Pictures
pub mod Spans
pub mod Xml
