pub mod Prelude
pub mod Forms
pub mod Automatic
pub mod Quoting
pub mod Lines
pub mod Shell
pub mod views
pub mod inner
