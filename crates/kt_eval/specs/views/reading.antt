-- Calls that read makefiles.
pub mod Machine
