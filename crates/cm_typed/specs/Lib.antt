pub mod NodeLists
pub mod Numbers
