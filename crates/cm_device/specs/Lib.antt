pub mod DeviceFiles
pub mod FileLines
pub mod FileValues
pub mod SettingsMade
