pub mod AbortCodes
pub mod NoticeWords
pub mod ToldLines
pub mod Words
