pub mod BookRows
pub mod HeadWords
pub mod Rows
pub mod Book
pub mod Cuts
