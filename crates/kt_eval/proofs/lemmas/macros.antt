-- Lemmas about macros.
pub mod TableLemmas
