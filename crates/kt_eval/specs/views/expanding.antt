-- Calls that expand a text.
pub mod Calls
pub mod Pure
