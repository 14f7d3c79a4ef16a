-- What only contracts of private functions and proofs cite: none of this is needed to read the public contracts.
pub mod HashChains
pub mod Hashes
pub mod Rows
pub mod Texts
