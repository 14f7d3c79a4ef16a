pub mod Prelude
pub mod JoinedLines
pub mod Pieces
pub mod Forms
pub mod Scopes
pub mod NinjaRead
pub mod views
pub mod inner
