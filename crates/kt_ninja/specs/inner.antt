-- What only contracts of private functions and proofs cite: nothing here has to be read to know what is promised.
pub mod Equality
pub mod Blocks
pub mod Escaping
pub mod View
