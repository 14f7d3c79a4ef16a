pub mod Condensing
pub mod Rows
pub mod Sorted
