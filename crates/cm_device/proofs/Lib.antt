pub mod DeviceFiles
pub mod Numbers
pub mod Added
