pub mod ApartLemmas
pub mod BoundLemmas
pub mod ClosingLemmas
pub mod ExistenceLemmas
pub mod FitLemmas
pub mod OnceLemmas
pub mod AskedLemmas
pub mod Answering
