pub mod Continued
pub mod Layout
pub mod Rows
pub mod Spellings
