pub mod Prelude
pub mod Args
pub mod inner
