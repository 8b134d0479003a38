pub mod HeardDevices
