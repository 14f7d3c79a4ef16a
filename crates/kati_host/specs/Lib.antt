pub mod Refused
pub mod Seen
pub mod Written
