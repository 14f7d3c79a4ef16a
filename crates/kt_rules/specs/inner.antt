-- What only contracts of private functions and proofs cite: none of this is needed to read the public contracts.
pub mod Prelude
pub mod Alike
pub mod Dictionary
pub mod Held
pub mod Holding
pub mod Lists
pub mod Marks
pub mod Remembered
pub mod SuffixCuts
pub mod Telling
pub mod Goals
pub mod Heads
pub mod Patterns
pub mod Refusals
pub mod Slots
