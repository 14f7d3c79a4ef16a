-- How what is wrong is reported, and files of names.
pub mod Faults
pub mod Files
