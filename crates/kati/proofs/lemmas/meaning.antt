-- Lemmas about what a run means: that there is one meaning, and that its plan is the graph, can be written and is
-- read back.
pub mod LimitLemmas
pub mod ReadBackLemmas
pub mod ExactLemmas
pub mod SoundLemmas
