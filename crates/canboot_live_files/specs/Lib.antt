pub mod JournalNames
