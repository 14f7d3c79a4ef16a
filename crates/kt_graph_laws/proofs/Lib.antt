pub mod ResolutionLemmas
pub mod PartLemmas
