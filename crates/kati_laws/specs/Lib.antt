pub mod ArgumentRows
pub mod Meaning
pub mod Names
pub mod Once
