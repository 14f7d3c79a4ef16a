-- What only users of one crate are promised, and words between crates: what the programs promise is said without them.
pub mod Grammar
pub mod Lines
pub mod Reading
pub mod Terms
