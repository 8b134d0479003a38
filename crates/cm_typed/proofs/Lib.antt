pub mod Digits
pub mod Folds
pub mod NodeLists
