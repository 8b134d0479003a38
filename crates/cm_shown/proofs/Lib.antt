pub mod NodeNames
pub mod ShownWords
