-- Which pattern rule makes a name: from the pattern rules, the known names and a name, the candidate that is chosen, if
-- there is one. Begin with the definition `choice_of` in `Search`.
pub mod Candidates
pub mod Search
