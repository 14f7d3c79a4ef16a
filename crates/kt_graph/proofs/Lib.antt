pub mod Common
pub mod lemmas
pub mod GoalLemmas
