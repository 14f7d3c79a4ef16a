-- The search as the code holds it: questions with their answers, and rules by the ends of their targets.
pub mod Chains
pub mod Ends
pub mod Candidates
