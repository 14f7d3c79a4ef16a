-- What only contracts of private functions and proofs cite: nothing here has to be read to know what is promised.
pub mod Prelude
pub mod Leading
pub mod LineTexts
pub mod OwnRuns
pub mod Places
pub mod ShortSteps
pub mod Blocks
pub mod Symbols
pub mod Terms
