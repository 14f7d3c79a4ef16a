-- What only contracts of private functions and proofs cite: none of this is needed to read the public contracts.
pub mod Prelude
pub mod Stops
pub mod Views
pub mod plan
pub mod Delivered
pub mod Checking
