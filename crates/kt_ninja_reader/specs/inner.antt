-- What only contracts of private functions and proofs cite: nothing here has to be read to know what is promised.
pub mod Prelude
pub mod Spelled
pub mod Cutting
pub mod Joining
pub mod Parting
pub mod Refusals
pub mod Wording
pub mod Holding
pub mod Reading
