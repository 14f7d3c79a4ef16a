-- What only contracts of private functions and proofs cite: none of this is needed to read the public contracts.
pub mod Prelude
pub mod Views
pub mod Doing
pub mod Plain
pub mod Answers
pub mod Evaluation
pub mod Values
