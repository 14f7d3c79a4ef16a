pub mod Prelude
pub mod Plan
pub mod Text
pub mod Writable
pub mod Written
pub mod views
pub mod inner
