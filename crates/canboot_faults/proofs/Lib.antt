pub mod OutputStatus
