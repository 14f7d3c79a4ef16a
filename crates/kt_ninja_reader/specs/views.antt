-- What only users of one crate are promised, and words between crates: what the programs promise is said without them.
pub mod Reading
pub mod Spellings
