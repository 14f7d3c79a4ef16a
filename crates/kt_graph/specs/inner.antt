-- What only contracts of private functions and proofs cite: none of this is needed to read the public contracts.
pub mod Prelude
pub mod search
pub mod nodes
pub mod faults
pub mod EndMarks
