-- What only users of one crate are promised, and words between crates: what the programs promise is said without them.
pub mod Prelude
pub mod Reach
pub mod faults
pub mod nodes
pub mod search
