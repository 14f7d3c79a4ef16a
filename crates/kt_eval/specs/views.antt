-- What only users of one crate are promised, and words between crates: what the programs promise is said without them.
pub mod Prelude
pub mod Growing
pub mod Outcome
pub mod expanding
pub mod files
pub mod reading
