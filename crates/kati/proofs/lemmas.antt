-- Lemmas: of the plan, of what a run means, and beside these folders of how a run goes and ends.
pub mod plan
pub mod meaning
pub mod BlameLemmas
pub mod MeaningLemmas
pub mod RunLemmas
pub mod TellLemmas
pub mod ExpectingLemmas
pub mod AskedLemmas
pub mod OutcomeLemmas
pub mod NamesLemmas
