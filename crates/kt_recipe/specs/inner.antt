-- What only contracts of private functions and proofs cite: none of this is needed to read the public contracts.
pub mod Prelude
pub mod Asking
pub mod Plain
pub mod Prepared
pub mod Shell
