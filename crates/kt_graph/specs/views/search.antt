-- What a search has asked so far.
pub mod Search
