pub mod Rows
pub mod Resolution
pub mod Goals
