-- What only users of one crate are promised, and words between crates: what the programs promise is said without them.
pub mod Begun
pub mod Functions
pub mod Lines
pub mod Match
pub mod Sorted
pub mod Words
