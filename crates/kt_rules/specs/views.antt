-- What only users of one crate are promised, and words between crates: what the programs promise is said without them.
pub mod Prelude
pub mod Book
pub mod Cuts
pub mod Indexes
pub mod Known
pub mod Refusals
pub mod Targets
