-- Lemmas, in the folders of the code that they are about; those beside the folders are about names, and the tables
-- that both folders use.
pub mod line
pub mod book
pub mod DotLemmas
pub mod IndexLemmas
pub mod TargetLemmas
pub mod DictionaryLemmas
