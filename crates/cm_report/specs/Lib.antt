pub mod ReportForms
pub mod SlaveReports
pub mod Written
