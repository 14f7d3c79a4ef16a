-- Lemmas about the search.
pub mod CandidateLemmas
pub mod FitLemmas
pub mod NeedLemmas
pub mod SizeOrder
pub mod UnknownLemmas
pub mod TreeLemmas
pub mod QuestionLemmas
pub mod AskingLemmas
pub mod ChainLemmas
pub mod PlacingLemmas
pub mod CandidateViewLemmas
pub mod TurnLemmas
pub mod GrowthLemmas
pub mod ChosenLemmas
pub mod EndLemmas
pub mod NotingLemmas
